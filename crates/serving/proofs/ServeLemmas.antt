-- Serving, event by event.
use Rattle.std.proofs.Common.{◌≡◌, ℕ, ◌+◌, ◌≤◌, ◌<◌, take, List, [], ◌∷◌, ◌++◌, length, Option, refl, sym, ap, subst, ◌∙◌, Bool, true, false, IsTrue, if◌then◌else◌, arith, inl, inr}
use Rattle.std.proofs.lemmas.List.{length-append}
use Rattle.wiki_io.specs.declared.links.Event.{Event}
use Rattle.wiki_io.specs.declared.links.Event.TheVariants.{Piece}
use Rattle.wiki_io.specs.Link.{with_more, can_come, can_all_come, connections_after, IsOver}
use Rattle.wiki_talk.specs.declared.requests.Request.{Request}
use Rattle.wiki_talk.specs.declared.replies.Reply.{Reply}
use Rattle.server.specs.Kept.{Kept, numbers}
use Rattle.serving.specs.declared.serving.Served.TheVariants as served
use Rattle.serving.specs.declared.serving.Come.{Come}
use Rattle.serving.specs.declared.serving.Come.TheVariants as come
use Rattle.serving.specs.Coming.{AreCome, IsPieceCome}
use Rattle.serving.specs.Events.{Outside, RunsEvents, RunsAll, CutsJournal, WasHandled, Ended}
use Rattle.serving.proofs.DeliverLemmas.{with_more-nil, with_more-append}
use Rattle.serving.proofs.EventLemmas.{RunsEvents-none, RunsEvents-append}

-- an event that can come by itself
pub comes-one : (connections : List ℕ) (event : Event) → IsTrue (can_all_come connections (event ∷ [])) → IsTrue (can_come connections event)
comes-one connections event all = by_case (can_come connections event) all
  where
    by_case : (b : Bool) → (if b then true else false) ≡ true → b ≡ true
    by_case true h = refl
    by_case false h = h

-- the events handed in so far were handled, and the link has the kept connections open
pub record Serving {S : Type 0} (step : S → Request → Reply → S → Type 0) (first : S) (outside : Outside) (handed_first : Option (List Event)) (machine : S)
    (kept : List Kept) (told : Outside) (handed : Option (List Event)) (connections : List ℕ) (count journal_first journal link_first link : ℕ) : Type 0 where
  pub events : List Event
  pub are_handed : handed ≡ with_more handed_first events
  pub run : RunsEvents step first [] outside events machine kept told
  pub open_now : connections ≡ numbers kept
  pub counted : length events ≡ count
  pub journal_faults : journal_first ≤ journal
  pub link_faults : link_first ≤ link

-- what the outside tells, part by part
pub told_same : (journal : Option (List ℕ)) (sent sent_then : Option (List (ℕ × List ℕ))) (faults faults_then : ℕ) → sent_then ≡ sent → faults_then ≡ faults
    → let told_then : Outside = record { journal = journal; sent = sent_then; send_faults = faults_then } in let before : Outside =
    record { journal = journal; sent = sent; send_faults = faults } in told_then ≡ before
told_same journal sent sent_then faults faults_then same_sent same_faults = rw (same_sent, same_faults) refl

pub told_all : (journal journal_then : Option (List ℕ)) (sent sent_then : Option (List (ℕ × List ℕ))) (faults faults_then : ℕ) → journal_then ≡ journal
    → sent_then ≡ sent → faults_then ≡ faults
    → let told_then : Outside = record { journal = journal_then; sent = sent_then; send_faults = faults_then } in let before : Outside =
    record { journal = journal; sent = sent; send_faults = faults } in told_then ≡ before
told_all journal journal_then sent sent_then faults faults_then same_journal same_sent same_faults = rw (same_journal, same_sent, same_faults) refl

module _ {S : Type 0} (step : S → Request → Reply → S → Type 0) (first : S) (outside : Outside) (handed_first : Option (List Event)) where
  pub Serving-first : (machine : S) (kept : List Kept) (connections : List ℕ) (journal link : ℕ) → machine ≡ first → kept ≡ [] → connections ≡ []
      → Serving step first outside handed_first machine kept outside handed_first connections 0 journal journal link link
  Serving-first machine kept connections journal link same none none_open = record {
    events = [];
    are_handed = sym (with_more-nil handed_first);
    run = subst (λ m. RunsEvents step first [] outside [] m kept outside) (sym same)
        (subst (λ k. RunsEvents step first [] outside [] first k outside) (sym none) (RunsEvents-none step first [] outside));
    open_now = none_open ∙ sym (ap numbers none);
    counted = refl;
    journal_faults = omega arith;
    link_faults = omega arith;
  }

  module _ (machine : S) (kept : List Kept) (told : Outside) (handed : Option (List Event)) (connections : List ℕ)
      (count journal_first journal link_first link : ℕ)
      (s : Serving step first outside handed_first machine kept told handed connections count journal_first journal link_first link)
      (told_then : Outside) (same : told_then ≡ told) where
    run_then : RunsEvents step first [] outside s.events machine kept told_then
    run_then = subst (λ t. RunsEvents step first [] outside s.events machine kept t) (sym same) s.run

    handed_more : (more : List Event) (handed_then : Option (List Event)) → handed_then ≡ with_more handed more
        → handed_then ≡ with_more handed_first (s.events ++ more)
    handed_more more handed_then is = is ∙ ap (λ h. with_more h more) s.are_handed ∙ with_more-append handed_first s.events more

    handed_same : (handed_then : Option (List Event)) → handed_then ≡ with_more handed [] → handed_then ≡ with_more handed_first s.events
    handed_same handed_then is = is ∙ with_more-nil handed ∙ s.are_handed

    one_more : (event : Event) → length (s.events ++ event ∷ []) ≡ count + 1
    one_more event = omega (arith, length-append s.events (event ∷ []), s.counted)

    pub Serving-more : (event : Event) (handed_then : Option (List Event)) (machine_after : S) (kept_after : List Kept) (told_after : Outside)
        (connections_then : List ℕ) (journal_then link_then : ℕ)
        → handed_then ≡ with_more handed (event ∷ []) → RunsEvents step machine kept told_then (event ∷ []) machine_after kept_after told_after
        → connections_then ≡ numbers kept_after
        → journal ≤ journal_then → link ≤ link_then
        → Serving step first outside handed_first machine_after kept_after told_after handed_then connections_then (count + 1) journal_first journal_then
        link_first link_then
    Serving-more event handed_then machine_after kept_after told_after connections_then journal_then link_then is run open_then journal_kept link_kept =
        record {
          events = s.events ++ event ∷ [];
          are_handed = handed_more (event ∷ []) handed_then is;
          run = RunsEvents-append step first [] outside s.events (event ∷ []) machine kept told_then machine_after kept_after told_after run_then run;
          open_now = open_then;
          counted = one_more event;
          journal_faults = omega (arith, s.journal_faults);
          link_faults = omega (arith, s.link_faults);
        }

    all_run : RunsAll step first outside s.events told_then
    all_run = record { last = machine; kept = kept; run = run_then }

    pub ended_over : (most : ℕ) (handed_then left : Option (List Event)) → handed_then ≡ with_more handed [] → IsOver left → count ≤ most
        → Ended step first outside handed_first most handed_then served.Done left told_then
    ended_over most handed_then left is over few = (s.events, handed_same handed_then is, omega (arith, s.counted), (all_run, inl over))

    pub ended_full : (most : ℕ) (left : Option (List Event)) → count ≡ most → Ended step first outside handed_first most handed served.Done left told_then
    ended_full most left full = (s.events, s.are_handed, omega (arith, s.counted), (all_run, inr (s.counted ∙ full)))

    pub ended_failed : (most : ℕ) (handed_then left : Option (List Event)) → handed_then ≡ with_more handed [] → count ≤ most
        → Ended step first outside handed_first most handed_then served.LinkFault left told_then
    ended_failed most handed_then left is few = (s.events, handed_same handed_then is, omega (arith, s.counted), all_run)

    -- an event for which there was no memory
    pub ended_memory : (most : ℕ) (event : Event) (handed_then left : Option (List Event)) (machine_after : S) → handed_then ≡ with_more handed (event ∷ [])
        → WasHandled step machine kept event machine_after
        → count < most → Ended step first outside handed_first most handed_then served.Memory left told_then
    ended_memory most event handed_then left machine_after is was room = (
      s.events ++ event ∷ [],
      handed_more (event ∷ []) handed_then is,
      omega (arith, one_more event),
      inr (record {
        handled = s.events;
        last_event = event;
        all = refl;
        before = machine;
        kept = kept;
        run = run_then;
        last = machine_after;
        was_handled = was;
      }),
    )

    -- an event whose line the journal cut off
    pub ended_journal : (most : ℕ) (event : Event) (handed_then left : Option (List Event)) (machine_after : S) (kept_after : List Kept) (told_after : Outside)
        → handed_then ≡ with_more handed (event ∷ [])
        → CutsJournal step machine kept event told_then.journal machine_after kept_after told_after.journal
        → (told_after.sent ≡ told_then.sent) × (told_after.send_faults ≡ told_then.send_faults) → count < most
        → Ended step first outside handed_first most handed_then served.JournalFault left told_after
    ended_journal most event handed_then left machine_after kept_after told_after is cuts unsent room = (
      s.events ++ event ∷ [],
      handed_more (event ∷ []) handed_then is,
      omega (arith, one_more event),
      record {
        handled = s.events;
        last_event = event;
        all = refl;
        before = machine;
        kept = kept;
        outside_before = told_then;
        run = run_then;
        last = machine_after;
        kept_after = kept_after;
        cut = cuts;
        unsent = unsent;
      },
    )

-- nothing was handed in, for want of memory
pub Ended-none : {S : Type 0} (step : S → Request → Reply → S → Type 0) (first : S) (outside : Outside) (handed left : Option (List Event)) (most : ℕ)
    → Ended step first outside handed most handed served.Memory left outside
Ended-none step first outside handed left most =
    ([], sym (with_more-nil handed), omega arith, inl (record { last = first; kept = []; run = RunsEvents-none step first [] outside }))

-- ---- what a link hands in

pub come_event : (c : Come) (before after : Option (List Event)) (event : Event) → (events : List Event) × (after ≡ with_more before events) × AreCome c events
    → c ≡ come.Event event → after ≡ with_more before (event ∷ [])
come_event c before after event handed is = handed.1 ∙ ap (with_more before) (subst (λ x. AreCome x handed.0) is handed.2)

pub come_over : (c : Come) (before after : Option (List Event)) → (events : List Event) × (after ≡ with_more before events) × AreCome c events → c ≡ come.Over
    → after ≡ with_more before []
come_over c before after handed is = handed.1 ∙ ap (with_more before) (subst (λ x. AreCome x handed.0) is handed.2)

pub come_failed : (c : Come) (before after : Option (List Event)) → (events : List Event) × (after ≡ with_more before events) × AreCome c events
    → c ≡ come.Failed → after ≡ with_more before []
come_failed c before after handed is = handed.1 ∙ ap (with_more before) (subst (λ x. AreCome x handed.0) is handed.2)

pub come_unread : (c : Come) (before after : Option (List Event)) → (events : List Event) × (after ≡ with_more before events) × AreCome c events
    → c ≡ come.Unread
    → (event : Event) × (after ≡ with_more before (event ∷ []))
come_unread c before after handed is =
    let come_one = subst (λ x. AreCome x handed.0) is handed.2 in
    (come_one.0, handed.1 ∙ ap (with_more before) come_one.1)

came : (a b : Event) → come.Event a ≡ come.Event b → a ≡ b
came a b same = cc

-- the event that came could come
pub comes_so : (connections : List ℕ) (a : Event) (b : Event) → IsTrue (can_all_come connections (a ∷ [])) → come.Event a ≡ come.Event b
    → IsTrue (can_come connections b)
comes_so connections a b all same = subst (λ (e : Event). IsTrue (can_come connections e)) (came a b same) (comes-one connections a all)

pub connections_so : (connections after : List ℕ) (a : Event) (b : Event) → after ≡ connections_after connections a → come.Event a ≡ come.Event b
    → after ≡ connections_after connections b
connections_so connections after a b is same = is ∙ ap (connections_after connections) (came a b same)

module _ (n size : ℕ) (buffer : List ℕ) (answer : Come) (is_piece : IsPieceCome n (take size buffer) answer) where
  -- the piece came
  pub piece_came : AreCome answer (Piece n (take size buffer) ∷ [])
  piece_came = elim is_piece [
    | inl read ↦ subst (λ (c : Come). AreCome c (Piece n (take size buffer) ∷ [])) (sym read) refl
    | inr unread ↦ subst (λ (c : Come). AreCome c (Piece n (take size buffer) ∷ [])) (sym unread) (Piece n (take size buffer), refl)
  ]

  pub piece_is : (event : Event) → answer ≡ come.Event event → come.Event (Piece n (take size buffer)) ≡ come.Event event
  piece_is event is = elim is_piece [
    | inl read ↦ sym read ∙ is
    | inr unread ↦ absurd (cc (unread, is))
  ]

  pub piece_not_over : answer ≡ come.Over → ⊥
  piece_not_over is = elim is_piece [ inl read ↦ cc (read, is) | inr unread ↦ cc (unread, is) ]

  pub piece_not_failed : answer ≡ come.Failed → ⊥
  piece_not_failed is = elim is_piece [ inl read ↦ cc (read, is) | inr unread ↦ cc (unread, is) ]

-- Runs of events, one after another.
use Rattle.std.proofs.Common.{◌≡◌, ◌⊎◌, ℕ, Bool, true, List, [], ◌∷◌, ◌++◌, map, Option, refl, sym, subst, ◌∙◌, append-nil, IsTrue, arith, ◌≤◌, length, take, inl, inr}
use Rattle.std.proofs.lemmas.Grind.{flat_map-append}
use Rattle.std.proofs.lemmas.List.{map-append}
use Rattle.std.proofs.lemmas.List.Elements.{All-nil, All-cons, All-append}
use Rattle.std.specs.List.{flat_map}
use Rattle.std.specs.Bool.{OnTrue}
use Rattle.std.specs.Prelude.{Result, Ok, Err, IfOk}
use Rattle.std.specs.Io.KnownBytes.{Appends}
use Rattle.wiki_io.specs.declared.links.Event.{Event}
use Rattle.wiki_io.specs.Link.{can_come}
use Rattle.wiki_io.proofs.KnownLemmas.{Appends-nil, Appends-trans}
use Rattle.wiki_talk.specs.declared.requests.Request.{Request}
use Rattle.wiki_talk.specs.declared.replies.Reply.{Reply}
use Rattle.wiki_talk.specs.Turns.{Exchange, Turns}
use Rattle.http_front.specs.declared.seen.Then.{Then}
use Rattle.server.specs.declared.turns.Turn.{Turn}
use Rattle.server.specs.declared.turns.Turn.TheVariants as turns
use Rattle.server.specs.Responses.{response_of}
use Rattle.server.specs.Kept.{Kept, numbers}
use Rattle.server.specs.Taking.{Takes}
use Rattle.server.specs.Runs.{TakesAll}
use Rattle.serving.specs.Handling.{Handling, waited, own_answer, replied, turn_in, exchange_in, journal_in, CameInLine, response_in}
use Rattle.serving.specs.Journal.{journal_line}
use Rattle.serving.specs.Delivering.{Delivers}
use Rattle.serving.specs.Events.{Outside, RunsEvents, Handles, WasHandled, CutsJournal}
use Rattle.serving.proofs.DeliverLemmas.{Delivers-none, Delivers-append}
use Rattle.serving.proofs.InLineLemmas.{came_in_line}

TakesAll-append : (first : List Kept) (events more : List Event) (turns turns_more : List Turn) (middle last : List Kept) → TakesAll first events turns middle
    → TakesAll middle more turns_more last → TakesAll first (events ++ more) (turns ++ turns_more) last
TakesAll-append first [] more [] turns_more middle last run rest = subst (λ k. TakesAll k more turns_more last) run rest
TakesAll-append first [] more (t ∷ turns) turns_more middle last run rest = absurd run
TakesAll-append first (e ∷ events) more [] turns_more middle last run rest = absurd run
TakesAll-append first (e ∷ events) more (t ∷ turns) turns_more middle last run rest =
    (run.0, run.1, run.2, TakesAll-append run.0 events more turns turns_more middle last run.3 rest)

module _ {S : Type 0} (step : S → Request → Reply → S → Type 0) where
  pub Turns-append : (first : S) (xs ys : List (Exchange Request Reply)) (middle last : S) → Turns step first xs middle → Turns step middle ys last
      → Turns step first (xs ++ ys) last
  Turns-append first [] ys middle last turns more = subst (λ s. Turns step s ys last) turns more
  Turns-append first (x ∷ xs) ys middle last turns more = (turns.0, turns.1, Turns-append turns.0 xs ys middle last turns.2 more)

  pub RunsEvents-none : (state : S) (kept : List Kept) (outside : Outside) → RunsEvents step state kept outside [] state kept outside
  RunsEvents-none state kept outside = record {
    handlings = [];
    turns = refl;
    steps = refl;
    in_lines = All-nil CameInLine;
    journal = Appends-nil outside.journal;
    responses = Delivers-none outside.sent outside.sent outside.send_faults outside.send_faults refl (omega arith);
  }

  -- one event
  pub RunsEvents-one : (old : S) (kept : List Kept) (outside : Outside) (event : Event) (handling : Handling) (new : S) (kept_after : List Kept)
      (after : Outside)
      → IsTrue (can_come (numbers kept) event) → Handles step old kept event handling new kept_after
      → Appends outside.journal after.journal (journal_in handling)
      → Delivers (response_in handling) outside.sent outside.send_faults after.sent after.send_faults
      → RunsEvents step old kept outside (event ∷ []) new kept_after after
  RunsEvents-one old kept outside event handling new kept_after after comes handles written delivers = record {
    handlings = handling ∷ [];
    turns = (kept_after, comes, handles.takes, refl);
    steps = rw (append-nil (exchange_in handling)) handles.steps;
    in_lines = All-cons CameInLine handling [] (came_in_line kept event handling kept_after handles.takes) (All-nil CameInLine);
    journal = rw (append-nil (journal_in handling)) written;
    responses = rw (append-nil (response_in handling)) delivers;
  }

  -- events after others
  pub RunsEvents-append : (first : S) (kept : List Kept) (outside : Outside) (events more : List Event) (middle : S) (kept_middle : List Kept)
      (outside_middle : Outside) (last : S) (kept_last : List Kept) (outside_last : Outside)
      → RunsEvents step first kept outside events middle kept_middle outside_middle
      → RunsEvents step middle kept_middle outside_middle more last kept_last outside_last
      → RunsEvents step first kept outside (events ++ more) last kept_last outside_last
  RunsEvents-append first kept outside events more middle kept_middle outside_middle last kept_last outside_last one two = record {
    handlings = one.handlings ++ two.handlings;
    turns = subst (λ (turns : List Turn). TakesAll kept (events ++ more) turns kept_last) (sym (map-append turn_in one.handlings two.handlings))
        (TakesAll-append kept events more (map turn_in one.handlings) (map turn_in two.handlings) kept_middle kept_last one.turns two.turns);
    steps = rw (flat_map-append exchange_in one.handlings two.handlings)
        (Turns-append first (flat_map exchange_in one.handlings) (flat_map exchange_in two.handlings) middle last one.steps two.steps);
    in_lines = All-append CameInLine one.handlings two.handlings one.in_lines two.in_lines;
    journal = rw (flat_map-append journal_in one.handlings two.handlings)
        (Appends-trans outside.journal outside_middle.journal outside_last.journal (flat_map journal_in one.handlings) (flat_map journal_in two.handlings)
        one.journal two.journal);
    responses = rw (flat_map-append response_in one.handlings two.handlings)
        (Delivers-append (flat_map response_in one.handlings) (flat_map response_in two.handlings) outside.sent outside_middle.sent outside_last.sent
        outside.send_faults outside_middle.send_faults outside_last.send_faults one.responses two.responses);
  }

  -- ---- one event, by the turn of the server

  -- nothing is answered
  pub done_waiting : (old : S) (kept : List Kept) (outside : Outside) (event : Event) (turn : Turn) (kept_after : List Kept)
      → IsTrue (can_come (numbers kept) event) → Takes kept event turn kept_after
      → turn ≡ turns.Wait → RunsEvents step old kept outside (event ∷ []) old kept_after outside
  done_waiting old kept outside event turn kept_after comes takes is =
      RunsEvents-one old kept outside event waited old kept_after outside comes
      (record { takes = subst (λ t. Takes kept event t kept_after) is takes; steps = refl })
      (Appends-nil outside.journal) (Delivers-none outside.sent outside.sent outside.send_faults outside.send_faults refl (omega arith))

  -- a response for which the machine isn't asked
  pub done_own_answer : (old : S) (kept : List Kept) (outside after : Outside) (event : Event) (turn : Turn) (kept_after : List Kept) (n : ℕ)
      (response : List ℕ)
      → IsTrue (can_come (numbers kept) event)
      → Takes kept event turn kept_after → turn ≡ turns.Own n response → after.journal ≡ outside.journal
      → Delivers ((n, response) ∷ []) outside.sent outside.send_faults after.sent after.send_faults
      → RunsEvents step old kept outside (event ∷ []) old kept_after after
  done_own_answer old kept outside after event turn kept_after n response comes takes is same delivers =
      RunsEvents-one old kept outside event (own_answer n response) old kept_after after comes
      (record { takes = subst (λ t. Takes kept event t kept_after) is takes; steps = refl })
      (subst (λ j. Appends outside.journal j []) (sym same) (Appends-nil outside.journal)) delivers

  asked_once : (old : S) (kept : List Kept) (event : Event) (turn : Turn) (kept_after : List Kept) (n : ℕ) (request : Request) (answer : Then) (reply : Reply)
      (new : S)
      → Takes kept event turn kept_after → turn ≡ turns.Ask n request answer → step old request reply new
      → Handles step old kept event (replied n request answer reply) new kept_after
  asked_once old kept event turn kept_after n request answer reply new takes is steps =
      record { takes = subst (λ t. Takes kept event t kept_after) is takes; steps = (new, steps, refl) }

  -- a request with its reply
  pub done_request : (old : S) (kept : List Kept) (outside after : Outside) (event : Event) (turn : Turn) (kept_after : List Kept) (n : ℕ) (request : Request)
      (answer : Then) (reply : Reply) (new : S)
      → IsTrue (can_come (numbers kept) event) → Takes kept event turn kept_after → turn ≡ turns.Ask n request answer → step old request reply new
      → Appends outside.journal after.journal (journal_line request reply)
      → Delivers ((n, response_of answer reply) ∷ []) outside.sent outside.send_faults after.sent after.send_faults
      → RunsEvents step old kept outside (event ∷ []) new kept_after after
  done_request old kept outside after event turn kept_after n request answer reply new comes takes is steps written delivers =
      RunsEvents-one old kept outside event (replied n request answer reply) new kept_after after comes
      (asked_once old kept event turn kept_after n request answer reply new takes is steps) written delivers

  -- a request whose line the journal cut off
  pub cut_request : (old : S) (kept : List Kept) (event : Event) (turn : Turn) (kept_after : List Kept) (n : ℕ) (request : Request) (answer : Then) (new : S)
      (taken taken_after : Option (List ℕ))
      → Takes kept event turn kept_after → turn ≡ turns.Ask n request answer
      → (reply : Reply) × step old request reply new
      × ((count : ℕ) × (count ≤ length (journal_line request reply)) × Appends taken taken_after (take count (journal_line request reply)))
      → CutsJournal step old kept event taken new kept_after taken_after
  cut_request old kept event turn kept_after n request answer new taken taken_after takes is cut = record {
    handling = replied n request answer cut.0;
    handles = asked_once old kept event turn kept_after n request answer cut.0 new takes is cut.1;
    count = cut.2.0;
    within = cut.2.1;
    written = cut.2.2;
  }

  -- a request for which there was no memory, before the machine's step or after it
  pub was_request : (old : S) (kept : List Kept) (event : Event) (turn : Turn) (kept_after : List Kept) (n : ℕ) (request : Request) (answer : Then) (new : S)
      → Takes kept event turn kept_after → turn ≡ turns.Ask n request answer → (new ≡ old) ⊎ ((reply : Reply) × step old request reply new)
      → WasHandled step old kept event new
  was_request old kept event turn kept_after n request answer new takes is (inl same) = inl same
  was_request old kept event turn kept_after n request answer new takes is (inr stepped) =
      inr (replied n request answer stepped.0, kept_after, asked_once old kept event turn kept_after n request answer stepped.0 new takes is stepped.1)

-- ---- what was written of a line

-- a front of the bytes is a front of the line that they are
pub front_of_line : (bytes line target : List ℕ) (taken taken_after : Option (List ℕ)) → bytes ≡ line → line ≡ target
    → (n : ℕ) × (n ≤ length bytes) × Appends taken taken_after (take n bytes)
    → (count : ℕ) × (count ≤ length target) × Appends taken taken_after (take count target)
front_of_line bytes line target taken taken_after same is front =
    subst (λ (l : List ℕ). (count : ℕ) × (count ≤ length l) × Appends taken taken_after (take count l)) (same ∙ is) front

-- the whole of the bytes is the line
pub whole_line : (b : Bool) (bytes line target : List ℕ) (taken taken_after : Option (List ℕ)) → b ≡ true → bytes ≡ line → line ≡ target
    → OnTrue b (Appends taken taken_after bytes) → Appends taken taken_after target
whole_line b bytes line target taken taken_after all same is written =
    subst (λ (l : List ℕ). Appends taken taken_after l) (same ∙ is) (subst (λ v. OnTrue v (Appends taken taken_after bytes)) all written)

-- the response that was sent is this one
pub same_response : (n : ℕ) (bytes response target : List ℕ) (sent sent_after : Option (List (ℕ × List ℕ))) (faults faults_after : ℕ) → bytes ≡ response
    → response ≡ target
    → Delivers ((n, bytes) ∷ []) sent faults sent_after faults_after → Delivers ((n, target) ∷ []) sent faults sent_after faults_after
same_response n bytes response target sent sent_after faults faults_after same is delivers =
    subst (λ (l : List ℕ). Delivers ((n, l) ∷ []) sent faults sent_after faults_after) (same ∙ is) delivers

-- what a step's reply leaves
pub with_reply : {A E : Type 0} (P Q : A → Reply → Type 0) (steps : Reply → Type 0) (r : Result A E) (reply : Reply) → steps reply
    → IfOk r (λ a. P a reply × Q a reply)
    → IfOk r (λ a. (told : Reply) × steps told × P a told × Q a told)
with_reply P Q steps (Ok a) reply stepped is = (reply, stepped, is.0, is.1)
with_reply P Q steps (Err e) reply stepped is = tt

-- What a server keeps of a connection is what came over it alone.
use Rattle.std.proofs.Common.{◌≡◌, ℕ, ◌==◌, ◌≤◌, ◌<◌, Bool, true, false, not, if◌then◌else◌, List, [], ◌∷◌, ◌++◌, length, refl, sym, ap, subst, ◌∙◌, IsTrue, inl, inr}
use Rattle.std.proofs.lemmas.Bool.{false≢true, cases_lt, eqb-true, eq-eqb}
use Rattle.wiki_io.specs.declared.links.Event.{Event}
use Rattle.wiki_io.specs.declared.links.Event.TheVariants.{Opened, Piece, Ended}
use Rattle.wiki_io.specs.Link.{is_among, can_come}
use Rattle.http_front.specs.Front.{Sees}
use Rattle.http_front.proofs.CutLemmas.{cut_anywhere}
use Rattle.wiki_io.specs.declared.limits.TheConstants.{MOST_OPEN}
use Rattle.server.specs.declared.turns.Turn.{Turn}
use Rattle.server.specs.declared.turns.Turn.TheVariants as turns
use Rattle.server.specs.Kept.{Kept, numbers, fresh, bytes_of, with_piece, closed}
use Rattle.server.specs.Taking.{Takes, TakesOpening, kept_after}
use Rattle.server.specs.Runs.{TakesAll, own_after, own_after_all, own_bytes, AreOwn, IsApart}
use Rattle.server.proofs.OwnLemmas.{by_number, bytes_of-push, numbers-push, bytes_of-none, numbers-piece, bytes_of-piece, bytes_of-other_piece, numbers-closed, numbers-others, bytes_of-others}

-- of each connection that is kept, the bytes are these
abbrev KeepsOwn : List Kept → (ℕ → List ℕ) → Type 0
KeepsOwn kept own = (n : ℕ) → is_among (numbers kept) n ≡ true → bytes_of n kept ≡ own n

not_opened : (n m : ℕ) (kept : List Kept) → not (is_among (numbers kept) m) ≡ true → (m == n) ≡ true → is_among (numbers kept) n ≡ false
not_opened n m kept free same = subst (λ k. is_among (numbers kept) k ≡ false) (eqb-true m n same) (from_not (is_among (numbers kept) m) free)
  where
    from_not : (b : Bool) → not b ≡ true → b ≡ false
    from_not true h = absurd (false≢true h)
    from_not false h = refl

-- without a connection
own-closed : (m : ℕ) (kept : List Kept) (own after : ℕ → List ℕ) → ((n : ℕ) → (m == n) ≡ false → after n ≡ own n) → KeepsOwn kept own
    → KeepsOwn (closed m kept) after
own-closed m kept own after same keeps n among = by_number m n (bytes_of n (closed m kept) ≡ after n)
    (λ this. absurd (false≢true (sym (numbers-closed n m kept this) ∙ among)))
    (λ other. bytes_of-others n m kept other ∙ keeps n (sym (numbers-others n m kept other) ∙ among) ∙ sym (same n other))

own-opened : (m : ℕ) (old new : List Kept) (turn : Turn) (own : ℕ → List ℕ) → not (is_among (numbers old) m) ≡ true → TakesOpening old m turn new
    → KeepsOwn old own → KeepsOwn new (λ n. own_after n (own n) (Opened m))
own-opened m old new turn own free takes keeps = elim (cases_lt (length old) MOST_OPEN) [
  | inl room ↦ subst (λ k. KeepsOwn k (λ n. own_after n (own n) (Opened m))) (sym (takes.free room).1) (λ n among.
      by_number m n (bytes_of n (old ++ fresh m ∷ []) ≡ own_after n (own n) (Opened m))
      (λ this. rw this (bytes_of-push n m old ∙ bytes_of-none n old (not_opened n m old free this)))
      (λ other. rw other (bytes_of-push n m old ∙ keeps n (sym (numbers-push n m old other) ∙ among))))
  | inr full ↦ subst (λ k. KeepsOwn k (λ n. own_after n (own n) (Opened m))) (sym (takes.full full).1) (λ n among.
      by_number m n (bytes_of n old ≡ own_after n (own n) (Opened m))
      (λ this. absurd (false≢true (sym (not_opened n m old free this) ∙ among)))
      (λ other. rw other (keeps n among)))
]

own-piece : (m : ℕ) (piece : List ℕ) (old : List Kept) (turn : Turn) (own : ℕ → List ℕ) → is_among (numbers old) m ≡ true
    → KeepsOwn old own → KeepsOwn (kept_after m piece turn old) (λ n. own_after n (own n) (Piece m piece))
own-piece m piece old turns.Wait own among_m keeps = λ n among. by_number m n (bytes_of n (with_piece m piece old) ≡ own_after n (own n) (Piece m piece))
    (λ this.
    let is : m ≡ n = eqb-true m n this in
    rw this (subst (λ k. bytes_of k (with_piece m piece old) ≡ own k ++ piece) is
    (bytes_of-piece m piece old among_m ∙ ap (λ bs. bs ++ piece) (keeps m among_m))))
    (λ other. rw other (bytes_of-other_piece n m piece old other ∙ keeps n (sym (ap (λ ns. is_among ns n) (numbers-piece m piece old)) ∙ among)))
own-piece m piece old (turns.Own k response) own among_m keeps =
    own-closed m old own (λ n. own_after n (own n) (Piece m piece)) (λ n other. rw other refl) keeps
own-piece m piece old (turns.Ask k request answer) own among_m keeps =
    own-closed m old own (λ n. own_after n (own n) (Piece m piece)) (λ n other. rw other refl) keeps

own-event : (old : List Kept) (event : Event) (turn : Turn) (new : List Kept) (own : ℕ → List ℕ) → IsTrue (can_come (numbers old) event)
    → Takes old event turn new
    → KeepsOwn old own → KeepsOwn new (λ n. own_after n (own n) event)
own-event old (Opened m) turn new own comes takes keeps = own-opened m old new turn own comes takes keeps
own-event old (Piece m piece) turn new own comes takes keeps =
    subst (λ k. KeepsOwn k (λ n. own_after n (own n) (Piece m piece))) (sym takes.new_is) (own-piece m piece old turn own comes keeps)
own-event old (Ended m) turn new own comes takes keeps =
    subst (λ k. KeepsOwn k (λ n. own_after n (own n) (Ended m))) (sym takes.new_is) (own-closed m old own (λ n. own n) (λ n other. refl) keeps)

own-all : (old : List Kept) (events : List Event) (turns : List Turn) (new : List Kept) (own : ℕ → List ℕ) → TakesAll old events turns new
    → KeepsOwn old own → KeepsOwn new (λ n. own_after_all n (own n) events)
own-all old [] [] new own run keeps = subst (λ k. KeepsOwn k own) (sym run) keeps
own-all old [] (turn ∷ turns) new own run keeps = absurd run
own-all old (event ∷ events) [] new own run keeps = absurd run
own-all old (event ∷ events) (turn ∷ turns) new own run keeps =
    own-all run.0 events turns new (λ n. own_after n (own n) event) run.3 (own-event old event turn run.0 own run.1 run.2 keeps)

own_after_all-push : (n : ℕ) (bytes : List ℕ) (events : List Event) (event : Event)
    → own_after_all n bytes (events ++ event ∷ []) ≡ own_after n (own_after_all n bytes events) event
own_after_all-push n bytes [] event = refl
own_after_all-push n bytes (e ∷ events) event = own_after_all-push n (own_after n bytes e) events event

-- at a piece the turn is what came over its own connection
pub take_apart : (kept : List Kept) (event : Event) (turn : Turn) (new : List Kept) → IsTrue (can_come (numbers kept) event) → Takes kept event turn new
    → IsApart kept event turn
take_apart kept (Opened n) turn new comes takes = λ events turns run. tt
take_apart kept (Piece n piece) turn new comes takes = λ events turns run.
    let own = own-all [] events turns kept (λ n. []) run (λ n among. absurd (false≢true among)) n comes in
    let same : (n == n) ≡ true = eq-eqb n n refl in
    let is : bytes_of n kept ++ piece ≡ own_bytes n (events ++ Piece n piece ∷ []) =
    ap (λ bs. bs ++ piece) own ∙ sym (own_after_all-push n [] events (Piece n piece) ∙ (rw same refl)) in
    let sees : Sees (own_bytes n (events ++ Piece n piece ∷ [])) takes.seen = subst (λ bs. Sees bs takes.seen) is takes.sees in
    (record { seen = takes.seen; sees = sees; turn_is = takes.turn_is }, cut_anywhere (own_bytes n (events ++ Piece n piece ∷ [])) takes.seen sees)
take_apart kept (Ended n) turn new comes takes = λ events turns run. tt

-- one event more
pub TakesAll-push : (first : List Kept) (events : List Event) (turns : List Turn) (event : Event) (turn : Turn) (before last : List Kept)
    → TakesAll first events turns before
    → IsTrue (can_come (numbers before) event) → Takes before event turn last → TakesAll first (events ++ event ∷ []) (turns ++ turn ∷ []) last
TakesAll-push first [] [] event turn before last run comes takes =
    (last, subst (λ k. IsTrue (can_come (numbers k) event)) run comes, subst (λ k. Takes k event turn last) run takes, refl)
TakesAll-push first [] (t ∷ turns) event turn before last run comes takes = absurd run
TakesAll-push first (e ∷ events) [] event turn before last run comes takes = absurd run
TakesAll-push first (e ∷ events) (t ∷ turns) event turn before last run comes takes =
    (run.0, run.1, run.2, TakesAll-push run.0 events turns event turn before last run.3 comes takes)

-- so it is at each event of a run
own_behind : (before : List Event) (turns_before : List Turn) (kept : List Kept) → TakesAll [] before turns_before kept
    → (events : List Event) (turns : List Turn) (new : List Kept) → TakesAll kept events turns new → AreOwn before events turns
own_behind before turns_before kept run [] turns new rest = tt
own_behind before turns_before kept run (event ∷ events) [] new rest = tt
own_behind before turns_before kept run (event ∷ events) (turn ∷ turns) new rest = (
  take_apart kept event turn rest.0 rest.1 rest.2 before turns_before run,
  own_behind (before ++ event ∷ []) (turns_before ++ turn ∷ []) rest.0 (TakesAll-push [] before turns_before event turn kept rest.0 run rest.1 rest.2) events
      turns new rest.3,
)

pub own_each : (events : List Event) (turns : List Turn) (kept : List Kept) → TakesAll [] events turns kept → AreOwn [] events turns
own_each events turns kept run = own_behind [] [] [] refl events turns kept run

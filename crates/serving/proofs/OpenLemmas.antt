-- The connections that a link has open, and those that a server keeps.
use Rattle.std.proofs.Common.{◌≡◌, ℕ, ◌||◌, true, false, List, [], ◌∷◌, ◌++◌, refl, sym, ap, subst, ◌∙◌, IsTrue, inl, inr, length}
use Rattle.std.proofs.lemmas.Bool.{false≢true, cases_lt, not-true}
use Rattle.std.proofs.lemmas.List.{map-append}
use Rattle.wiki_base.proofs.NumberLaws.{eqb_refl}
use Rattle.wiki_io.specs.declared.links.Event.{Event}
use Rattle.wiki_io.specs.declared.links.Event.TheVariants.{Opened, Piece, Ended}
use Rattle.wiki_io.specs.Link.{is_among, without, can_come, connections_after}
use Rattle.wiki_talk.specs.declared.requests.Request.{Request}
use Rattle.http_front.specs.declared.seen.Then.{Then}
use Rattle.http_front.specs.declared.seen.Seen.{Seen}
use Rattle.http_front.specs.declared.seen.Seen.TheVariants as seen
use Rattle.wiki_io.specs.declared.limits.TheConstants.{MOST_OPEN}
use Rattle.server.specs.declared.turns.Turn.{Turn}
use Rattle.server.specs.declared.turns.Turn.TheVariants as turns
use Rattle.server.specs.Kept.{Kept, numbers, fresh, closed}
use Rattle.server.specs.Taking.{Takes, TakesOpening, TakesPiece, turn_of}
use Rattle.server.proofs.OwnLemmas.{by_number, numbers-piece}

-- ---- lists of numbers

among_push : (n : ℕ) (ns : List ℕ) → is_among (ns ++ n ∷ []) n ≡ true
among_push n [] = rw (eqb_refl n) refl
among_push n (m ∷ ns) = by_number m n (is_among ((m ∷ ns) ++ n ∷ []) n ≡ true) (λ is. rw is refl) (λ is. rw is (among_push n ns))

without_push : (n : ℕ) (ns : List ℕ) → is_among ns n ≡ false → without n (ns ++ n ∷ []) ≡ ns
without_push n [] none = rw (eqb_refl n) refl
without_push n (m ∷ ns) none = by_number m n (without n ((m ∷ ns) ++ n ∷ []) ≡ m ∷ ns)
    (λ is. absurd (false≢true (sym none ∙ ap (λ b. b || is_among ns n) is)))
    (λ is. rw is (ap (λ l. m ∷ l) (without_push n ns (sym (ap (λ b. b || is_among ns n) is) ∙ none))))

pub numbers_closed : (n : ℕ) (kept : List Kept) → numbers (closed n kept) ≡ without n (numbers kept)
numbers_closed n [] = refl
numbers_closed n (c ∷ kept) = by_number c.number n (numbers (closed n (c ∷ kept)) ≡ without n (numbers (c ∷ kept)))
    (λ is. rw is (numbers_closed n kept))
    (λ is. rw is (ap (λ l. c.number ∷ l) (numbers_closed n kept)))

-- ---- a turn with a response on a connection

pub IsOn : ℕ → Turn → Type 0
IsOn n turns.Wait = ⊥
IsOn n (turns.Own m response) = m ≡ n
IsOn n (turns.Ask m request answer) = m ≡ n

-- what is seen in the bytes of a connection is answered on it
on_own : (n m : ℕ) (s : Seen) (turn : Turn) → turn ≡ turn_of m s → IsOn n turn → m ≡ n
unfolding IsOn
on_own n m seen.Wait turn is on = absurd (subst (IsOn n) is on)
on_own n m (seen.Refuse status allow bad_line) turn is on = subst (IsOn n) is on
on_own n m (seen.Own answer) turn is on = subst (IsOn n) is on
on_own n m (seen.Ask request answer) turn is on = subst (IsOn n) is on

module _ (old new : List Kept) (n : ℕ) where
  -- the connection is open, and without it the link has those open that the server keeps
  IsAnswered : List ℕ → Type 0
  IsAnswered open_now = (is_among open_now n ≡ true) × (without n open_now ≡ numbers new)

  on_opening : (m : ℕ) (turn : Turn) → is_among (numbers old) m ≡ false → TakesOpening old m turn new → IsOn n turn → IsAnswered (numbers old ++ m ∷ [])
  unfolding IsOn IsAnswered
  on_opening m turn none takes on = elim (cases_lt (length old) MOST_OPEN) [
    | inl room ↦ absurd (subst (IsOn n) (takes.free room).0 on)
    | inr full ↦
        let is : m ≡ n = subst (IsOn n) (takes.full full).0 on in
        let same : numbers old ≡ numbers new = ap numbers (sym (takes.full full).1) in (
          subst (λ k. is_among (numbers old ++ m ∷ []) k ≡ true) is (among_push m (numbers old)),
          subst (λ k. without k (numbers old ++ m ∷ []) ≡ numbers new) is (without_push m (numbers old) none ∙ same),
        )
  ]

  on_piece : (m : ℕ) (piece : List ℕ) (turn : Turn) → is_among (numbers old) m ≡ true → TakesPiece old m piece turn new → IsOn n turn → IsAnswered (numbers old)
  unfolding IsOn IsAnswered
  on_piece m piece turns.Wait among takes on = absurd on
  on_piece m piece (turns.Own k response) among takes on =
      let is = on_own n m takes.seen (turns.Own k response) takes.turn_is on in (
        subst (λ k. is_among (numbers old) k ≡ true) is among,
        subst (λ k. without k (numbers old) ≡ numbers new) is (sym (ap numbers takes.new_is ∙ numbers_closed m old)),
      )
  on_piece m piece (turns.Ask k request answer) among takes on =
      let is = on_own n m takes.seen (turns.Ask k request answer) takes.turn_is on in (
        subst (λ k. is_among (numbers old) k ≡ true) is among,
        subst (λ k. without k (numbers old) ≡ numbers new) is (sym (ap numbers takes.new_is ∙ numbers_closed m old)),
      )

answered_by : (old : List Kept) (event : Event) (turn : Turn) (new : List Kept) (n : ℕ) → IsTrue (can_come (numbers old) event) → Takes old event turn new
    → IsOn n turn
    → IsAnswered old new n (connections_after (numbers old) event)
unfolding IsOn
answered_by old (Opened m) turn new n comes takes on = on_opening old new n m turn (not-true (is_among (numbers old) m) comes) takes on
answered_by old (Piece m piece) turn new n comes takes on = on_piece old new n m piece turn comes takes on
answered_by old (Ended m) turn new n comes takes on = absurd (subst (IsOn n) takes.turn_is on)

-- where the link has these open, a response can be sent on the connection
pub open_on : (old : List Kept) (event : Event) (turn : Turn) (new : List Kept) (n : ℕ) (open_now : List ℕ) → IsTrue (can_come (numbers old) event)
    → Takes old event turn new → IsOn n turn
    → open_now ≡ connections_after (numbers old) event → IsTrue (is_among open_now n)
unfolding IsAnswered
open_on old event turn new n open_now comes takes on is = subst (λ ns. is_among ns n ≡ true) (sym is) (answered_by old event turn new n comes takes on).0

-- and when it is closed then, the link has those open that the server keeps
pub open_after : (old : List Kept) (event : Event) (turn : Turn) (new : List Kept) (n : ℕ) (open_now open_then : List ℕ) → IsTrue (can_come (numbers old) event)
    → Takes old event turn new → IsOn n turn
    → open_now ≡ connections_after (numbers old) event → open_then ≡ without n open_now → open_then ≡ numbers new
unfolding IsAnswered
open_after old event turn new n open_now open_then comes takes on is closes =
    closes ∙ ap (without n) is ∙ (answered_by old event turn new n comes takes on).1

pub on_own_answer : (n : ℕ) (response : List ℕ) → IsOn n (turns.Own n response)
unfolding IsOn
on_own_answer n response = refl

pub on_request : (n : ℕ) (request : Request) (answer : Then) → IsOn n (turns.Ask n request answer)
unfolding IsOn
on_request n request answer = refl

-- ---- a turn without a response

-- the link has those open that the server keeps
pub open_waiting : (old : List Kept) (event : Event) (new : List Kept) → Takes old event turns.Wait new → connections_after (numbers old) event ≡ numbers new
open_waiting old (Opened m) new takes = elim (cases_lt (length old) MOST_OPEN) [
  | inl room ↦ sym (ap numbers (takes.free room).1 ∙ map-append (λ (c : Kept). c.number) old (fresh m ∷ []))
  | inr full ↦ absurd (own_or_wait (takes.full full).0)
]
  where
    own_or_wait : {m : ℕ} {response : List ℕ} → turns.Wait ≡ turns.Own m response → ⊥
    own_or_wait h = cc
open_waiting old (Piece m piece) new takes = sym (ap numbers takes.new_is ∙ numbers-piece m piece old)
open_waiting old (Ended m) new takes = sym (ap numbers takes.new_is ∙ numbers_closed m old)

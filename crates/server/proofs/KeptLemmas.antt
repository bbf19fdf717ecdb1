-- Connections by their numbers.
use Rattle.std.proofs.Common.{◌≡◌, ℕ, zero, suc, ◌+◌, ◌<◌, ◌==◌, ◌||◌, ltb, Bool, true, false, not, cond, if◌then◌else◌, List, [], ◌∷◌, ◌++◌, length, map, get_or, refl, sym, ap, subst, ◌∙◌, arith, Some, None, IsTrue}
use Rattle.std.proofs.Math.ListN.{set}
use Rattle.std.proofs.lemmas.Bool.{false≢true, lt-ltb, eqb-true}
use Rattle.std.proofs.lemmas.List.Quantifiers.{position-Some}
use Rattle.std.specs.List.{filter, list_any, position, position_or_len}
use Rattle.wiki_io.specs.Link.{is_among}
use Rattle.server.specs.declared.connections.Connection.{Connection}
use Rattle.server.specs.declared.turns.Turn.{Turn}
use Rattle.server.specs.declared.turns.Turn.TheVariants as turns
use Rattle.server.specs.Kept.{Kept, numbers, bytes_of, with_piece, closed}
use Rattle.http_front.specs.Front.{Sees}
use Rattle.server.specs.Reading.{shown, IsSeen}
use Rattle.server.specs.Taking.{turn_of, kept_after, TakesPiece}

-- an element that passes stands somewhere
within : (p : Connection → Bool) (xs : List Connection) → list_any p xs ≡ true → position_or_len p xs < length xs
within p [] h = absurd (false≢true h)
within p (x ∷ xs) h =
    let Claim : Bool → Type 0 = λ b. (b || list_any p xs) ≡ true → cond (not b) (1 + position_or_len p xs) 0 < length (x ∷ xs) in
    let cases : (b : Bool) → Claim b = λ b. elim b as Claim [
      | true ↦ λ _. omega arith
      | false ↦ λ any. omega (arith, within p xs any)
    ] in
    cases (p x) h

-- the numbers of connections as they are seen
among_shown : (n : ℕ) (items : List Connection) → is_among (numbers (map shown items)) n ≡ list_any (λ c. c.number == n) items
among_shown n [] = refl
among_shown n (c ∷ items) = ap (λ b. (c.number == n) || b) (among_shown n items)

-- a connection with this number stands somewhere
pub found : (n : ℕ) (items : List Connection) (kept : List Kept) → map shown items ≡ kept → IsTrue (is_among (numbers kept) n)
    → position (λ c. c.number == n) items ≡ None → ⊥
found n items kept view among none =
    let any : list_any (λ (c : Connection). c.number == n) items ≡ true = sym (among_shown n items) ∙ ap (λ k. is_among (numbers k) n) view ∙ among in
    let inside : ltb (position_or_len (λ c. c.number == n) items) (length items) ≡ true = lt-ltb _ _ (within (λ c. c.number == n) items any) in
    let some : Some (position_or_len (λ c. c.number == n) items) ≡ None = rw inside at none in
    cc

-- of the connection at the first place with this number, the bytes
pub bytes_at : (n : ℕ) (items : List Connection) (place : ℕ) (d : Connection) → place < length items
    → ((get_or items place d).number == n) ≡ true → ((k : ℕ) → k < place → ((get_or items k d).number == n) ≡ false)
    → bytes_of n (map shown items) ≡ (get_or items place d).bytes
bytes_at n [] place d inside here before = absurd (omega arith)
bytes_at n (c ∷ items) zero d inside here before = rw here refl
bytes_at n (c ∷ items) (suc place) d inside here before =
    rw (before 0 (omega arith)) (bytes_at n items place d (omega arith) here (λ k below. before (suc k) (omega arith)))

-- with another connection there, which has a piece more
pub placed : (n : ℕ) (piece : List ℕ) (items : List Connection) (place : ℕ) (new d : Connection) → place < length items
    → ((get_or items place d).number == n) ≡ true → ((k : ℕ) → k < place → ((get_or items k d).number == n) ≡ false)
    → new.number ≡ (get_or items place d).number → new.bytes ≡ (get_or items place d).bytes ++ piece
    → map shown (set items place new) ≡ with_piece n piece (map shown items)
placed n piece [] place new d inside here before number bytes = absurd (omega arith)
placed n piece (c ∷ items) zero new d inside here before number bytes = rw (here, number, bytes) refl
placed n piece (c ∷ items) (suc place) new d inside here before number bytes =
    rw (before 0 (omega arith)) (ap (λ cs. shown c ∷ cs)
    (placed n piece items place new d (omega arith) here (λ k below. before (suc k) (omega arith)) number bytes))

-- without a connection, as they are seen
pub closed_shown : (n : ℕ) (items : List Connection) → map shown (filter (λ c. not (c.number == n)) items) ≡ closed n (map shown items)
closed_shown n [] = refl
closed_shown n (c ∷ items) =
    let Claim : Bool → Type 0 = λ b. map shown (cond (not b) (c ∷ filter (λ c. not (c.number == n)) items) (filter (λ c. not (c.number == n)) items))
    ≡ cond (not b) (shown c ∷ closed n (map shown items)) (closed n (map shown items)) in
    let cases : (b : Bool) → Claim b = λ b. elim b as Claim [
      | true ↦ closed_shown n items
      | false ↦ ap (λ cs. shown c ∷ cs) (closed_shown n items)
    ] in
    cases (c.number == n)

-- a piece more of a connection is nothing where that isn't kept
pub closed_piece : (n : ℕ) (piece : List ℕ) (kept : List Kept) → closed n (with_piece n piece kept) ≡ closed n kept
closed_piece n piece [] = refl
closed_piece n piece (c ∷ kept) =
    let Claim : Bool → Type 0 = λ b. (c.number == n) ≡ b
    → closed n (if b then record c { bytes = c.bytes ++ piece } ∷ kept else c ∷ with_piece n piece kept) ≡ closed n (c ∷ kept) in
    let cases : (b : Bool) → Claim b = λ b. elim b as Claim [
      | true ↦ λ is. rw is refl
      | false ↦ λ is. rw is (ap (λ cs. c ∷ cs) (closed_piece n piece kept))
    ] in
    cases (c.number == n) refl

-- a turn with a response
pub kept_after_other : (n : ℕ) (piece : List ℕ) (turn : Turn) (kept : List Kept) → (turn ≡ turns.Wait → ⊥) → kept_after n piece turn kept ≡ closed n kept
kept_after_other n piece turns.Wait kept not_wait = absurd (not_wait refl)
kept_after_other n piece (turns.Own m response) kept not_wait = refl
kept_after_other n piece (turns.Ask m request answer) kept not_wait = refl

-- ---- a piece that comes over the connection at a place

module _ (kept : List Kept) (items : List Connection) (n place : ℕ) (piece : List ℕ) (one new : Connection)
    (view : map shown items ≡ kept) (at_place : position (λ c. c.number == n) items ≡ Some place) (is_there : one ≡ get_or items place one)
    (number : new.number ≡ one.number) (bytes : new.bytes ≡ one.bytes ++ piece) where
  inside : place < length items
  inside = (position-Some (λ (c : Connection). c.number == n) items place one at_place).0

  here : ((get_or items place one).number == n) ≡ true
  here = (position-Some (λ (c : Connection). c.number == n) items place one at_place).1

  before : (k : ℕ) → k < place → ((get_or items k one).number == n) ≡ false
  before = (position-Some (λ (c : Connection). c.number == n) items place one at_place).2

  number_is : one.number ≡ n
  number_is = eqb-true one.number n (subst (λ (c : Connection). (c.number == n) ≡ true) (sym is_there) here)

  own : bytes_of n kept ≡ one.bytes
  own = ap (bytes_of n) (sym view) ∙ bytes_at n items place one inside here before ∙ ap (λ (c : Connection). c.bytes) (sym is_there)

  added : map shown (set items place new) ≡ with_piece n piece kept
  added = placed n piece items place new one inside here before (number ∙ ap (λ (c : Connection). c.number) is_there)
      (bytes ∙ ap (λ (c : Connection). c.bytes ++ piece) is_there) ∙ ap (with_piece n piece) view

  pub takes_piece : (turn : Turn) (after : List Kept) → IsSeen one.number (one.bytes ++ piece) turn → after ≡ kept_after n piece turn kept
      → TakesPiece kept n piece turn after
  takes_piece turn after is_seen is = record {
    seen = is_seen.seen;
    sees = subst (λ bs. Sees (bs ++ piece) is_seen.seen) (sym own) is_seen.sees;
    turn_is = is_seen.turn_is ∙ ap (λ k. turn_of k is_seen.seen) number_is;
    new_is = is;
  }

  pub after_wait : map shown (set items place new) ≡ kept_after n piece turns.Wait kept
  after_wait = added

  pub after_response : (turn : Turn) → (turn ≡ turns.Wait → ⊥) → closed n (map shown (set items place new)) ≡ kept_after n piece turn kept
  after_response turn not_wait = ap (closed n) added ∙ closed_piece n piece kept ∙ sym (kept_after_other n piece turn kept not_wait)

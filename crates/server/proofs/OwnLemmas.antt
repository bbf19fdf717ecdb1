-- The bytes and the numbers of connections, with one more, with a piece more, and without one.
use Rattle.std.proofs.Common.{◌≡◌, ℕ, ◌==◌, ◌||◌, Bool, true, false, if◌then◌else◌, List, [], ◌∷◌, ◌++◌, refl, sym, ap, ◌∙◌}
use Rattle.std.proofs.lemmas.Bool.{false≢true, eqb-true}
use Rattle.wiki_io.specs.Link.{is_among}
use Rattle.server.specs.Kept.{Kept, numbers, fresh, bytes_of, with_piece, closed}

-- ---- a test of numbers, either way

-- what holds where the numbers are equal and where they aren't
pub by_number : (m n : ℕ) (P : Type 0) → ((m == n) ≡ true → P) → ((m == n) ≡ false → P) → P
by_number m n P same other =
    let Claim : Bool → Type 0 = λ b. (m == n) ≡ b → P in
    let cases : (b : Bool) → Claim b = λ b. elim b as Claim [ true ↦ same | false ↦ other ] in
    cases (m == n) refl

-- ---- one more connection

-- the bytes of each connection stay
pub bytes_of-push : (n m : ℕ) (kept : List Kept) → bytes_of n (kept ++ fresh m ∷ []) ≡ bytes_of n kept
bytes_of-push n m [] = by_number m n (bytes_of n (fresh m ∷ []) ≡ []) (λ is. rw is refl) (λ is. rw is refl)
bytes_of-push n m (c ∷ kept) = by_number c.number n (bytes_of n ((c ∷ kept) ++ fresh m ∷ []) ≡ bytes_of n (c ∷ kept)) (λ is. rw is refl)
    (λ is. rw is (bytes_of-push n m kept))

-- it and those before are among them
pub numbers-push : (n m : ℕ) (kept : List Kept) → (m == n) ≡ false → is_among (numbers (kept ++ fresh m ∷ [])) n ≡ is_among (numbers kept) n
numbers-push n m [] other = rw other refl
numbers-push n m (c ∷ kept) other = ap (λ b. (c.number == n) || b) (numbers-push n m kept other)

-- nothing is known of one that isn't kept
pub bytes_of-none : (n : ℕ) (kept : List Kept) → is_among (numbers kept) n ≡ false → bytes_of n kept ≡ []
bytes_of-none n [] none = refl
bytes_of-none n (c ∷ kept) none = by_number c.number n (bytes_of n (c ∷ kept) ≡ [])
    (λ is. absurd (false≢true (sym none ∙ ap (λ b. b || is_among (numbers kept) n) is)))
    (λ is. rw is (bytes_of-none n kept (sym (ap (λ b. b || is_among (numbers kept) n) is) ∙ none)))

-- ---- a piece more

pub numbers-piece : (n : ℕ) (piece : List ℕ) (kept : List Kept) → numbers (with_piece n piece kept) ≡ numbers kept
numbers-piece n piece [] = refl
numbers-piece n piece (c ∷ kept) = by_number c.number n (numbers (with_piece n piece (c ∷ kept)) ≡ numbers (c ∷ kept))
    (λ is. rw is refl) (λ is. rw is (ap (λ ns. c.number ∷ ns) (numbers-piece n piece kept)))

-- the connection has it
pub bytes_of-piece : (n : ℕ) (piece : List ℕ) (kept : List Kept) → is_among (numbers kept) n ≡ true
    → bytes_of n (with_piece n piece kept) ≡ bytes_of n kept ++ piece
bytes_of-piece n piece [] among = absurd (false≢true among)
bytes_of-piece n piece (c ∷ kept) among = by_number c.number n (bytes_of n (with_piece n piece (c ∷ kept)) ≡ bytes_of n (c ∷ kept) ++ piece)
    (λ is. rw is (rw is refl))
    (λ is. rw is (rw is (bytes_of-piece n piece kept (sym (ap (λ b. b || is_among (numbers kept) n) is) ∙ among))))

-- and no other has
pub bytes_of-other_piece : (n m : ℕ) (piece : List ℕ) (kept : List Kept) → (m == n) ≡ false → bytes_of n (with_piece m piece kept) ≡ bytes_of n kept
bytes_of-other_piece n m piece [] other = refl
bytes_of-other_piece n m piece (c ∷ kept) other = by_number c.number m (bytes_of n (with_piece m piece (c ∷ kept)) ≡ bytes_of n (c ∷ kept))
    (λ is.
    let not_this : (c.number == n) ≡ false = ap (λ k. k == n) (eqb-true c.number m is) ∙ other in
    rw is (rw not_this refl))
    (λ is. rw is (by_number c.number n (bytes_of n (c ∷ with_piece m piece kept) ≡ bytes_of n (c ∷ kept)) (λ this. rw this refl)
    (λ this. rw this (bytes_of-other_piece n m piece kept other))))

-- ---- one connection fewer

-- it isn't among them
pub numbers-closed : (n m : ℕ) (kept : List Kept) → (m == n) ≡ true → is_among (numbers (closed m kept)) n ≡ false
numbers-closed n m [] same = refl
numbers-closed n m (c ∷ kept) same = by_number c.number m (is_among (numbers (closed m (c ∷ kept))) n ≡ false)
    (λ is. rw is (numbers-closed n m kept same))
    (λ is.
    let not_this : (c.number == n) ≡ false = ap (λ k. c.number == k) (sym (eqb-true m n same)) ∙ is in
    rw is (rw not_this (numbers-closed n m kept same)))

-- the others are
pub numbers-others : (n m : ℕ) (kept : List Kept) → (m == n) ≡ false → is_among (numbers (closed m kept)) n ≡ is_among (numbers kept) n
numbers-others n m [] other = refl
numbers-others n m (c ∷ kept) other = by_number c.number m (is_among (numbers (closed m (c ∷ kept))) n ≡ is_among (numbers (c ∷ kept)) n)
    (λ is.
    let not_this : (c.number == n) ≡ false = ap (λ k. k == n) (eqb-true c.number m is) ∙ other in
    rw is (rw not_this (numbers-others n m kept other)))
    (λ is. rw is (ap (λ b. (c.number == n) || b) (numbers-others n m kept other)))

-- with their bytes
pub bytes_of-others : (n m : ℕ) (kept : List Kept) → (m == n) ≡ false → bytes_of n (closed m kept) ≡ bytes_of n kept
bytes_of-others n m [] other = refl
bytes_of-others n m (c ∷ kept) other = by_number c.number m (bytes_of n (closed m (c ∷ kept)) ≡ bytes_of n (c ∷ kept))
    (λ is.
    let not_this : (c.number == n) ≡ false = ap (λ k. k == n) (eqb-true c.number m is) ∙ other in
    rw is (rw not_this (bytes_of-others n m kept other)))
    (λ is. rw is (by_number c.number n (bytes_of n (c ∷ closed m kept) ≡ bytes_of n (c ∷ kept)) (λ this. rw this refl)
    (λ this. rw this (bytes_of-others n m kept other))))

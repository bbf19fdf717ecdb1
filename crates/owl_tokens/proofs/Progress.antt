-- A token ends behind the place from which it was looked for, and within the text.
use Rattle.std.proofs.Common.{◌≡◌, ℕ, zero, suc, ◌+◌, ◌<◌, ◌≤◌, Bool, true, false, not, cond, eqb, ◌||◌, List, [], ◌∷◌, length, drop, Option, Some, None, refl, sym, subst, arith, length-drop}
use Rattle.owl_tokens.specs.declared.tokens.TokenKind.{TokenKind}
use Rattle.owl_tokens.specs.declared.tokens.TokenKind.TheVariants.{OpenParen, CloseParen, Equals, Iri}
use Rattle.owl_tokens.specs.Tokens.{Next, Found, Ends, Broken, IsWithin, is_space, is_word_byte, is_iri_byte, gap_end, run, closing_quote, sign, enclosed, begins_with_greater, iri_at, quoted_by, quoted_at, word_at, token_of, token_at, next}

-- either way
pub cond_by : {X : Type 0} (P : X → Type 0) (b : Bool) (x y : X) → (b ≡ true → P x) → (b ≡ false → P y) → P (cond b x y)
cond_by P true x y p q = p refl
cond_by P false x y p q = q refl

abbrev Between : ℕ → ℕ → ℕ → Type 0
Between low high n = (low ≤ n) × (n ≤ high)

wider : (low high lower higher n : ℕ) → lower ≤ low → high ≤ higher → Between low high n → Between lower higher n
wider low high lower higher n l h both = (omega arith, omega arith)

pub gap_within : (at : ℕ) (c : Bool) (bs : List ℕ) → Between at (at + length bs) (gap_end at c bs)
gap_within at c [] = (omega arith, omega arith)
gap_within at true (b ∷ bs) = wider (at + 1) (at + 1 + length bs) at (at + length (b ∷ bs)) _ (omega arith) (omega arith)
    (gap_within (at + 1) (not (eqb b 10)) bs)
gap_within at false (b ∷ bs) =
    let on : (c : Bool) → Between at (at + length (b ∷ bs)) (gap_end (at + 1) c bs) =
    λ c. wider (at + 1) (at + 1 + length bs) at (at + length (b ∷ bs)) _ (omega arith) (omega arith) (gap_within (at + 1) c bs) in
    cond_by (Between at (at + length (b ∷ bs))) (is_space b) (gap_end (at + 1) false bs) (cond (eqb b 35) (gap_end (at + 1) true bs) at) (λ _. on false)
    (λ _. cond_by (Between at (at + length (b ∷ bs))) (eqb b 35) (gap_end (at + 1) true bs) at (λ _. on true) (λ _. (omega arith, omega arith)))

pub run_within : (is : ℕ → Bool) (bs : List ℕ) → run is bs ≤ length bs
run_within is [] = omega arith
run_within is (b ∷ bs) =
    let rest = run_within is bs in cond_by (λ n. n ≤ length (b ∷ bs)) (is b) (1 + run is bs) 0 (λ _. omega arith) (λ _. omega arith)

run_some : (is : ℕ → Bool) (b : ℕ) (bs : List ℕ) → is b ≡ true → 0 < run is (b ∷ bs)
run_some is b bs h = subst (λ (v : Bool). 0 < cond v (1 + run is bs) 0) (sym h) (omega arith)

greater_within : (n : ℕ) (bs : List ℕ) → begins_with_greater (drop n bs) ≡ true → n < length bs
greater_within zero [] h = absurd (cc)
greater_within zero (b ∷ bs) h = omega arith
greater_within (suc n) [] h = absurd (cc)
greater_within (suc n) (b ∷ bs) h = let rest = greater_within n bs h in omega arith

abbrev Below : ℕ → Option ℕ → Type 0
Below most None = Unit {0}
Below most (Some n) = n < most

below_more : (a b : ℕ) (o : Option ℕ) → a ≤ b → Below a o → Below b o
below_more a b None le h = tt
below_more a b (Some n) le h = omega arith

closing_within : (n : ℕ) (c : Bool) (bs : List ℕ) → Below (n + length bs) (closing_quote n c bs)
closing_within n c [] = tt
closing_within n true (b ∷ bs) =
    cond_by (Below (n + length (b ∷ bs))) (eqb b 34 || eqb b 92) (closing_quote (n + 1) false bs) None
    (λ _. below_more (n + 1 + length bs) (n + length (b ∷ bs)) (closing_quote (n + 1) false bs) (omega arith) (closing_within (n + 1) false bs)) (λ _. tt)
closing_within n false (b ∷ bs) =
    cond_by (Below (n + length (b ∷ bs))) (eqb b 34) (Some n) (closing_quote (n + 1) (eqb b 92) bs) (λ _. omega arith)
    (λ _. below_more (n + 1 + length bs) (n + length (b ∷ bs)) (closing_quote (n + 1) (eqb b 92) bs) (omega arith) (closing_within (n + 1) (eqb b 92) bs))

iri_within : (at : ℕ) (bs : List ℕ) → IsWithin at (at + 1 + length bs) (iri_at at bs)
iri_within at bs =
    cond_by (IsWithin at (at + 1 + length bs)) (begins_with_greater (drop (run is_iri_byte bs) bs)) (enclosed Iri at bs (run is_iri_byte bs)) (Broken at)
    (λ h. let most = greater_within (run is_iri_byte bs) bs h in (omega arith, omega arith, omega arith)) (λ _. (omega arith, omega arith))

quoted_within : (at : ℕ) (bs : List ℕ) → IsWithin at (at + 1 + length bs) (quoted_at at bs)
quoted_within at bs = by (closing_quote 0 false bs) (closing_within 0 false bs)
  where
    by : (o : Option ℕ) → Below (0 + length bs) o → IsWithin at (at + 1 + length bs) (quoted_by o at bs)
    by None h = (omega arith, omega arith)
    by (Some n) h = (omega arith, omega arith, omega arith)

token_of_within : (at b : ℕ) (bs : List ℕ) → IsWithin at (at + 1 + length bs) (token_of at b bs)
token_of_within at b bs =
    either (eqb b 40) _ _ (λ _. one OpenParen)
    (λ _. either (eqb b 41) _ _ (λ _. one CloseParen)
    (λ _. either (eqb b 61) _ _ (λ _. one Equals)
    (λ _. either (eqb b 60) _ _ (λ _. iri_within at bs)
    (λ _. either (eqb b 34) _ _ (λ _. quoted_within at bs)
    (λ _. either (is_word_byte b) _ _ word (λ _. (omega arith, omega arith)))))))
  where
    either : (c : Bool) (x y : Next) → (c ≡ true → IsWithin at (at + 1 + length bs) x) → (c ≡ false → IsWithin at (at + 1 + length bs) y)
        → IsWithin at (at + 1 + length bs) (cond c x y)
    either = cond_by (IsWithin at (at + 1 + length bs))

    one : (kind : TokenKind) → IsWithin at (at + 1 + length bs) (sign kind at)
    one kind = (omega arith, omega arith, omega arith)

    word : is_word_byte b ≡ true → IsWithin at (at + 1 + length bs) (word_at at (b ∷ bs))
    word h = let some = run_some is_word_byte b bs h in let most = run_within is_word_byte (b ∷ bs) in (omega arith, omega arith, omega arith)

token_within : (at : ℕ) (bs : List ℕ) → IsWithin at (at + length bs) (token_at at bs)
token_within at [] = (omega arith, omega arith)
token_within at (b ∷ bs) = subst (λ n. IsWithin at n (token_of at b bs)) (let e : at + 1 + length bs ≡ at + length (b ∷ bs) = omega arith in e)
    (token_of_within at b bs)

within_wider : (low high lower higher : ℕ) (n : Next) → lower ≤ low → high ≤ higher → IsWithin low high n → IsWithin lower higher n
within_wider low high lower higher (Found t) l h both = (omega arith, omega arith, omega arith)
within_wider low high lower higher (Ends at) l h both = (omega arith, omega arith)
within_wider low high lower higher (Broken at) l h both = (omega arith, omega arith)

pub next_within : (text : List ℕ) (from : ℕ) → from ≤ length text → IsWithin from (length text) (next text from)
next_within text from le =
    let at = gap_end from false (drop from text) in
    let gap = gap_within from false (drop from text) in
    let most = length-drop from text in
    let left = length-drop at text in
    within_wider at (at + length (drop at text)) from (length text) (token_at at (drop at text)) (omega arith) (omega arith) (token_within at (drop at text))

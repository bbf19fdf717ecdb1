-- Tests of lists, and what follows where they hold.
use Rattle.std.proofs.Common.{◌≡◌, ◌≢◌, ℕ, zero, suc, ◌<◌, ◌||◌, Bool, true, false, List, [], ◌∷◌, ◌++◌, length, filter, cond, Option, Some, None, slice_get, refl, sym, ap, ◌∙◌, inl, inr, arith}
use Rattle.std.specs.Prelude.{not, ◌⊎◌, nat_lt, slice_set}
use Rattle.std.specs.List.{list_any, list_all}
use Rattle.std.specs.Option.{option_or}
use Rattle.std.specs.Map.{lookup}
use Rattle.std.proofs.lemmas.Bool.{cases_eq, ltb-true, or_cases}
use Rattle.wiki_base.proofs.BoolLaws.{and_first, and_second}
use Rattle.tableau_rules.proofs.Firsts.{where_parts}
use Rattle.logic_terms.specs.Meaning.{each_below, implies}
use Rattle.tableau_rules.specs.First.{first_below, where_true}
use Rattle.tableau_rules.specs.Clashes.{passes}

pub not_both : (a : Bool) → a ≡ true → not a ≡ true → ⊥
not_both true p q = cc
not_both false p q = cc

pub implied : (a b : Bool) → implies a b ≡ true → a ≡ true → b ≡ true
implied true b h p = h
implied false b h p = cc

-- what passes of an optional value is there
pub passes_some : {X : Type 0} (o : Option X) (test : X → Bool) → passes o test ≡ true → (x : X) × (o ≡ Some x) × (test x ≡ true)
passes_some None test h = cc
passes_some (Some x) test h = (x, refl, h)

-- an item that passes one test passes the other too, where all do
pub any_with_all : {X : Type 0} (some each : X → Bool) (xs : List X) → list_any some xs ≡ true → list_all each xs ≡ true
    → (x : X) × (some x ≡ true) × (each x ≡ true)
any_with_all some each [] p q = cc
any_with_all some each (x ∷ xs) p q = elim (or_cases (some x) (list_any some xs) p) [
  | inl here ↦ (x, here, and_first (each x) (list_all each xs) q)
  | inr there ↦ any_with_all some each xs there (and_second (each x) (list_all each xs) q)
]

pub any_at : {X : Type 0} (test : X → Bool) (xs : List X) → list_any test xs ≡ true
    → (i : ℕ) × (i < length xs) × ((x : X) × (slice_get xs i ≡ Some x) × (test x ≡ true))
any_at test [] h = cc
any_at test (x ∷ xs) h = elim (or_cases (test x) (list_any test xs) h) [
  | inl here ↦ (0, omega arith, (x, refl, here))
  | inr there ↦ (let w = any_at test xs there in (suc w.0, omega (arith, w.1), (w.2.0, w.2.1, w.2.2)))
]

kept_any : {X : Type 0} (test : X → Bool) (b : Bool) (x : X) (rest : List X) → (test x ≡ true) ⊎ (list_any test rest ≡ true) → (test x ≡ true → b ≡ true)
    → list_any test (cond b (x ∷ rest) rest) ≡ true
kept_any test true x rest (inl p) step = ap (λ z. z || list_any test rest) p
kept_any test true x rest (inr q) step = or_true (test x) (list_any test rest) q
  where
    or_true : (a b : Bool) → b ≡ true → (a || b) ≡ true
    or_true true b h = refl
    or_true false b h = h
kept_any test false x rest (inl p) step = absurd (never (step p))
  where
    never : false ≡ true → ⊥
    never e = cc
kept_any test false x rest (inr q) step = q

-- those that are kept have one that passes, where each that passes is kept
pub any_kept : {X : Type 0} (test keep : X → Bool) → ((x : X) → test x ≡ true → keep x ≡ true) → (xs : List X) → list_any test xs ≡ true
    → list_any test (filter keep xs) ≡ true
any_kept test keep step [] h = h
any_kept test keep step (x ∷ xs) h =
    kept_any test (keep x) x (filter keep xs)
    (elim (or_cases (test x) (list_any test xs) h) [ inl here ↦ inl here | inr there ↦ inr (any_kept test keep step xs there) ])
    (step x)

-- one that passes among at most one is the first
pub only_one : {X : Type 0} (test : X → Bool) (xs : List X) → list_any test xs ≡ true → nat_lt (length xs) 2 ≡ true
    → (x : X) × (slice_get xs 0 ≡ Some x) × (test x ≡ true)
only_one test [] h few = cc
only_one test (x ∷ []) h few = (x, refl, elim (or_cases (test x) false h) [ inl here ↦ here | inr there ↦ absurd (never there) ])
  where
    never : false ≡ true → ⊥
    never e = cc
only_one test (x ∷ y ∷ ys) h few = absurd (too_many (length ys) few)
  where
    too_many : (n : ℕ) → nat_lt (suc (suc n)) 2 ≡ true → ⊥
    too_many n e = omega (arith, ltb-true (suc (suc n)) 2 e)

pub each_at : (n : ℕ) (test : ℕ → Bool) (x : ℕ) → each_below n test ≡ true → x < n → test x ≡ true
each_at zero test x h lt = absurd (omega arith)
each_at (suc n) test x h lt = elim (cases_eq x n) [
  | inl same ↦ ap test same ∙ and_first (test n) (each_below n test) h
  | inr ne ↦ each_at n test x (and_second (test n) (each_below n test) h) (omega arith)
]

-- the first number that passes a test passes it
pub first_passes : (n : ℕ) (test : ℕ → Bool) (z : ℕ) → first_below n (λ y. where_true (test y) y) ≡ Some z → test z ≡ true
first_passes zero test z h = cc
first_passes (suc n) test z h = go (first_passes n test z) (first_below n (λ y. where_true (test y) y)) refl h
  where
    go : (first_below n (λ y. where_true (test y) y) ≡ Some z → test z ≡ true) → (o : Option ℕ) → first_below n (λ y. where_true (test y) y) ≡ o
        → option_or o (where_true (test n) n) ≡ Some z → test z ≡ true
    go before None e k = (let w = where_parts (test n) n z k in ap test (sym w.1) ∙ w.0)
    go before (Some y) e k = before (e ∙ k)

pub where_holds : {X : Type 0} (b : Bool) (x z : X) → where_true b x ≡ Some z → b ≡ true
where_holds true x z h = refl
where_holds false x z h = cc

pub set_cases : {X : Type 0} (xs : List X) (i : ℕ) (v : X) (y : ℕ)
    → (slice_get (slice_set xs i v) y ≡ slice_get xs y) ⊎ ((y ≡ i) × (slice_get (slice_set xs i v) y ≡ Some v))
set_cases [] i v y = inl refl
set_cases (x ∷ xs) zero v zero = inr (refl, refl)
set_cases (x ∷ xs) zero v (suc y) = inl refl
set_cases (x ∷ xs) (suc i) v zero = inl refl
set_cases (x ∷ xs) (suc i) v (suc y) = elim (set_cases xs i v y) [
  | inl same ↦ inl same
  | inr there ↦ inr (ap suc there.0, there.1)
]

pub push_cases : {X : Type 0} (xs : List X) (v : X) (y : ℕ)
    → ((y ≢ length xs) × (slice_get (xs ++ v ∷ []) y ≡ slice_get xs y)) ⊎ ((y ≡ length xs) × (slice_get (xs ++ v ∷ []) y ≡ Some v))
push_cases [] v zero = inr (refl, refl)
push_cases [] v (suc y) = inl ((λ e. absurd (omega arith)), refl)
push_cases (x ∷ xs) v zero = inl ((λ e. absurd (omega arith)), refl)
push_cases (x ∷ xs) v (suc y) = elim (push_cases xs v y) [
  | inl same ↦ inl ((λ e. same.0 (omega arith)), same.1)
  | inr there ↦ inr (ap suc there.0, there.1)
]

-- what is found of a key passes the test of some entry with the key
pub lookup_entry : {K X : Type 0} (is : K → Bool) (each : K × X → Bool) (es : List (K × X)) (x : X) → lookup is es ≡ Some x → list_all each es ≡ true
    → (key : K) × (is key ≡ true) × (each (key, x) ≡ true)
lookup_entry is each [] x h q = cc
lookup_entry {K} {X} is each (e ∷ es) x h q =
    go (λ k. lookup_entry is each es x k (and_second (each e) (list_all each es) q)) (is e.0) refl h
  where
    go : (lookup is es ≡ Some x → (key : K) × (is key ≡ true) × (each (key, x) ≡ true)) → (b : Bool) → is e.0 ≡ b → cond b (Some e.1) (lookup is es) ≡ Some x
        → (key : K) × (is key ≡ true) × (each (key, x) ≡ true)
    go further true here k =
        (let same : e.1 ≡ x = cc in (e.0, here, ap (λ z. each (e.0, z)) (sym same) ∙ and_first (each e) (list_all each es) q))
    go further false here k = further k

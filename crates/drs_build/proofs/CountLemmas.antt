-- How often a referent is introduced in structures that are put together.
use Rattle.std.proofs.Common.{◌≡◌, ℕ, ◌+◌, ◌≤◌, Bool, true, false, cond, List, [], ◌∷◌, ◌++◌, refl, ap, ◌∙◌, arith, append-nil}
use Rattle.std.specs.Prelude.{◌==◌, ◌&&◌, ◌||◌, not}
use Rattle.std.specs.List.{list_any}
use Rattle.wiki_base.proofs.NumberLaws.{eqb_refl}
use Rattle.logic_terms.specs.Structure.{Condition, Conditions, Structure, Negation, Implication, Disjunction, no_condition, also_condition, structure}
use Rattle.logic_terms.specs.Introduced.{introduced_in, introduced_in_all, introduced_in_condition, all_distinct}
use Rattle.drs_build.specs.Joining.{both, ◌⊕◌, only}

-- one where it is so
abbrev pub one : Bool → ℕ
one b = cond b 1 0

-- how often a number stands in a list
abbrev pub times : ℕ → List ℕ → ℕ
times r [] = 0
times r (q ∷ qs) = one (q == r) + times r qs

-- how often a structure introduces a referent, anywhere in it
abbrev pub count_in : ℕ → Structure → ℕ
count_in r k = times r (introduced_in k)

pub times-append : (r : ℕ) (xs ys : List ℕ) → times r (xs ++ ys) ≡ times r xs + times r ys
times-append r [] ys = omega arith
times-append r (x ∷ xs) ys = omega (arith, times-append r xs ys)

times-both : (r : ℕ) (cs ds : Conditions) → times r (introduced_in_all (both cs ds)) ≡ times r (introduced_in_all cs) + times r (introduced_in_all ds)
times-both r no_condition ds = omega arith
times-both r (also_condition c cs) ds = omega (
  arith,
  times-both r cs ds,
  times-append r (introduced_in_condition c) (introduced_in_all (both cs ds)),
  times-append r (introduced_in_condition c) (introduced_in_all cs),
)

pub joined_count : (r : ℕ) (k l : Structure) → count_in r (k ⊕ l) ≡ count_in r k + count_in r l
joined_count r (structure rs cs) (structure qs ds) =
    omega (
      arith,
      times-append r (rs ++ qs) (introduced_in_all (both cs ds)),
      times-append r rs qs,
      times-both r cs ds,
      times-append r rs (introduced_in_all cs),
      times-append r qs (introduced_in_all ds),
    )

alone_count : (r : ℕ) (c : Condition) → count_in r (only c) ≡ times r (introduced_in_condition c)
alone_count r c = ap (times r) (append-nil (introduced_in_condition c))

pub negation_count : (r : ℕ) (k : Structure) → count_in r (only (Negation k)) ≡ count_in r k
negation_count r k = alone_count r (Negation k)

pub implication_count : (r : ℕ) (k l : Structure) → count_in r (only (Implication k l)) ≡ count_in r k + count_in r l
implication_count r k l = alone_count r (Implication k l) ∙ times-append r (introduced_in k) (introduced_in l)

pub disjunction_count : (r : ℕ) (k l : Structure) → count_in r (only (Disjunction k l)) ≡ count_in r k + count_in r l
disjunction_count r k l = alone_count r (Disjunction k l) ∙ times-append r (introduced_in k) (introduced_in l)

not_there : (r : ℕ) (xs : List ℕ) → times r xs ≤ 0 → list_any (λ q. q == r) xs ≡ false
not_there r [] h = refl
not_there r (x ∷ xs) h = by (x == r) refl (λ le. not_there r xs le)
  where
    by : (b : Bool) → (x == r) ≡ b → (times r xs ≤ 0 → list_any (λ q. q == r) xs ≡ false) → list_any (λ q. q == r) (x ∷ xs) ≡ false
    by true e later = let k : one (x == r) ≡ 1 = ap one e in absurd (omega (arith, k))
    by false e later = ap (λ b. b || list_any (λ q. q == r) xs) e ∙ later (omega arith)

-- a list in which nothing stands twice
pub distinct_from_times : (xs : List ℕ) → ((r : ℕ) → times r xs ≤ 1) → all_distinct xs ≡ true
distinct_from_times [] h = refl
distinct_from_times (x ∷ xs) h =
    let one_more : one (x == x) ≡ 1 = ap one (eqb_refl x) in
    let none : times x xs ≤ 0 = omega (arith, h x, one_more) in
    ap (λ b. not b && all_distinct xs) (not_there x xs none) ∙ distinct_from_times xs (λ r. omega (arith, h r))

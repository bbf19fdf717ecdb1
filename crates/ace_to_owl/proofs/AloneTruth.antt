-- The axiom of a condition that stands alone is true exactly where the condition is.
use Rattle.std.proofs.Common.{◌≡◌, ℕ, zero, suc, ◌<◌, ◌==◌, ◌&&◌, ◌||◌, Bool, true, false, List, [], ◌∷◌, ◌++◌, Option, Some, None, Result, Ok, Err, Contains, Decides, refl, sym, ap, ◌∙◌, subst, inl, inr, arith}
use Rattle.std.specs.Prelude.{◌⊎◌, not, if◌then◌else◌}
use Rattle.std.specs.List.{list_all, filter}
use Rattle.std.specs.Option.{option_or}
use Rattle.std.proofs.lemmas.Bool.{cases_eq, eq-eqb, ne_eqb, or_cases, or_right, and_from, eqb-true, ltb-true, both_ways}
use Rattle.std.proofs.lemmas.Option.{same_Some}
use Rattle.std.proofs.Math.Bool.{and-true}
use Rattle.wiki_base.specs.declared.numbers.WordId.{WordId}
use Rattle.wiki_base.proofs.BoolLaws.{and_first, and_second, same_tests}
use Rattle.logic_terms.specs.declared.structures.Thing.TheVariants.{Ref, Name}
use Rattle.logic_terms.specs.declared.cause.Cause.{Cause}
use Rattle.logic_terms.specs.declared.cause.Cause.TheVariants.{Shared}
use Rattle.logic_terms.specs.Concept.{Concept, Everything, Atomic, Claim, SubClassOf, SubPropertyOf, ClassAssertion, PropertyAssertion, NegativePropertyAssertion, SameIndividual, DifferentIndividuals}
use Rattle.logic_terms.specs.Structure.{Condition, Conditions, Structure, IsA, AreRelated, AreSame, Negation, Implication, Disjunction, no_condition, also_condition, structure, referents_in}
use Rattle.logic_terms.specs.Free.{is_bound}
use Rattle.logic_terms.specs.Introduced.{introduced_in, introduced_in_all, introduced_in_condition, all_distinct}
use Rattle.logic_terms.specs.Interpretation.{Interpretation, is_interpretation, element_of, has_pair}
use Rattle.logic_terms.specs.Meaning.{each_below, implies, is_in, holds}
use Rattle.logic_terms.specs.Truth.{giving, some_extension, each_extension, is_true, all_true, condition_true}
use Rattle.logic_terms.specs.Reading.{Extends}
use Rattle.logic_terms.proofs.MeaningLemmas.{list_any-Contains, each_below-Decides}
use Rattle.logic_terms.proofs.Extensions.{same_at, other_at, some_extension-Decides, each_extension-Decides}
use Rattle.ace_to_owl.specs.Outcomes.{next}
use Rattle.ace_to_owl.specs.Terms.{terms_in, terms_in_condition, first_name, referents_among}
use Rattle.ace_to_owl.specs.Parts.{straight, inverse}
use Rattle.ace_to_owl.specs.Rolling.{roll}
use Rattle.ace_to_owl.specs.Mapping.{without, subclass_claim, member_claim, only_condition, only_fact, denied_claim, is_pair, role_claim, subrole_claim, two_conditions, transitive_claim, plain_claim, alone, other_claim, leading_claim, nameless_claim, named_claim, used_claim, compound_claim, claim_alone}
use Rattle.ace_to_owl.proofs.RollMeaning.{Went, went, no_err, ok_same, fresh_in, fresh_in_all, fresh_in_condition}
use Rattle.ace_to_owl.proofs.Fresh.{Among, not_both, not_from, fresh_less, fresh_less_all, bound_filter, filter_bound}
use Rattle.ace_to_owl.proofs.RollTruth.{roll_true}
use Rattle.ace_to_owl.proofs.TransitiveTruth.{transitive_says}

no_claim : {X : Type 0} (x : X) → ◌≡◌ {A = Option X} None (Some x) → ⊥
no_claim x e = let flip : true ≡ false = ap (λ o. elim o [ Some k ↦ false | None ↦ true ]) e in cc

-- an axiom says what a condition says, under every assignment
pub record Says (i : Interpretation) (claim : Claim) (c : Condition) : Type 0 where
  pub truth : (f : ℕ → ℕ) → holds i claim ≡ condition_true i c f

says_at : (i : Interpretation) (one claim : Claim) (c : Condition) → one ≡ claim → Says i one c → Says i claim c
says_at i one claim c same s = subst (λ k. Says i k c) same s

-- the one condition of a structure, and the one of a structure that introduces nothing
pub only_is : (k : Structure) (c : Condition) → only_condition k ≡ Some c → k ≡ structure (referents_in k) (also_condition c no_condition)
only_is (structure rs no_condition) c e = absurd (no_claim c e)
only_is (structure rs (also_condition d no_condition)) c e = ap (λ b. structure rs (also_condition b no_condition)) (same_Some d c e)
only_is (structure rs (also_condition d (also_condition b cs))) c e = absurd (no_claim c e)

pub fact_is : (k : Structure) (c : Condition) → only_fact k ≡ Some c → k ≡ alone c
fact_is (structure [] cs) c e = only_is (structure [] cs) c e
fact_is (structure (r ∷ rs) cs) c e = absurd (no_claim c e)

pub fact_true : (i : Interpretation) (k : Structure) (c : Condition) → only_fact k ≡ Some c → (f : ℕ → ℕ) → is_true i k f ≡ condition_true i c f
fact_true i k c e f = ap (λ s. is_true i s f) (fact_is k c e) ∙ and-true (condition_true i c f)

-- `not` of one fact
denied_says : (i : Interpretation) (d : Condition) (claim : Claim) → denied_claim d ≡ Some claim → (f : ℕ → ℕ) → holds i claim ≡ not (condition_true i d f)
denied_says i (IsA noun t) claim e f = absurd (no_claim claim e)
denied_says i (AreRelated word (Name a) (Name b)) claim e f = ap (holds i) (sym (same_Some (NegativePropertyAssertion (straight word) a b) claim e))
denied_says i (AreRelated word (Name a) (Ref r)) claim e f = absurd (no_claim claim e)
denied_says i (AreRelated word (Ref r) t) claim e f = absurd (no_claim claim e)
denied_says i (AreSame (Name a) (Name b)) claim e f = ap (holds i) (sym (same_Some (DifferentIndividuals a b) claim e))
denied_says i (AreSame (Name a) (Ref r)) claim e f = absurd (no_claim claim e)
denied_says i (AreSame (Ref r) t) claim e f = absurd (no_claim claim e)
denied_says i (Negation k) claim e f = absurd (no_claim claim e)
denied_says i (Implication k l) claim e f = absurd (no_claim claim e)
denied_says i (Disjunction k l) claim e f = absurd (no_claim claim e)

negation_by : (i : Interpretation) (k : Structure) (claim : Claim) (o : Option Condition) → only_fact k ≡ o
    → (elim o [ Some d ↦ denied_claim d | None ↦ None ]) ≡ Some claim → Says i claim (Negation k)
negation_by i k claim (Some d) is e = record { truth = λ f. denied_says i d claim e f ∙ sym (ap not (fact_true i k d is f)) }
negation_by i k claim None is e = absurd (no_claim claim e)

-- two different referents that are the only ones of a list
record Two (rs : List ℕ) (x y : ℕ) : Type 0 where
  first : is_bound rs x ≡ true
  second : is_bound rs y ≡ true
  others : (q : ℕ) → is_bound rs q ≡ true → (x ≡ q) ⊎ (y ≡ q)
  differ : ¬ (x ≡ y)

two_by : (p q x y : ℕ) → all_distinct (p ∷ q ∷ []) ≡ true → (((x ≡ p) × (y ≡ q)) ⊎ ((x ≡ q) × (y ≡ p))) → Two (p ∷ q ∷ []) x y
two_by p q x y once which =
    let apart : ¬ (p ≡ q) = λ same. not_both (is_bound (q ∷ []) p) (and_first (not (is_bound (q ∷ []) p)) (all_distinct (q ∷ [])) once)
    (ap (λ b. b || false) (eq-eqb q p (sym same))) in
    let one : is_bound (p ∷ q ∷ []) p ≡ true = ap (λ b. b || is_bound (q ∷ []) p) (eq-eqb p p refl) in
    let two : is_bound (p ∷ q ∷ []) q ≡ true = or_right (p == q) (is_bound (q ∷ []) q) (ap (λ b. b || false) (eq-eqb q q refl)) in
    let all : (r : ℕ) → is_bound (p ∷ q ∷ []) r ≡ true → (p ≡ r) ⊎ (q ≡ r) =
    λ r h. elim (or_cases (p == r) (is_bound (q ∷ []) r) h) [
      | inl here ↦ inl (eqb-true p r here)
      | inr later ↦ elim (or_cases (q == r) false later) [ inl here ↦ inr (eqb-true q r here) | inr is_not ↦ absurd (both_ways false refl is_not) ]
    ] in
    elim which [
      | inl w ↦ record {
        first = sym (sym one ∙ ap (is_bound (p ∷ q ∷ [])) (sym w.0));
        second = sym (sym two ∙ ap (is_bound (p ∷ q ∷ [])) (sym w.1));
        others = λ r h. elim (all r h) [ inl here ↦ inl (w.0 ∙ here) | inr here ↦ inr (w.1 ∙ here) ];
        differ = λ same. apart (sym w.0 ∙ same ∙ w.1);
      }
      | inr w ↦ record {
        first = sym (sym two ∙ ap (is_bound (p ∷ q ∷ [])) (sym w.0));
        second = sym (sym one ∙ ap (is_bound (p ∷ q ∷ [])) (sym w.1));
        others = λ r h. elim (all r h) [ inl here ↦ inr (w.1 ∙ here) | inr here ↦ inl (w.0 ∙ here) ];
        differ = λ same. apart (sym (sym w.0 ∙ same ∙ w.1));
      }
    ]

two_of : (rs : List ℕ) (x y : ℕ) → all_distinct rs ≡ true → is_pair rs x y ≡ true → Two rs x y
two_of [] x y once h = let flip : false ≡ true = h in absurd (both_ways false refl flip)
two_of (p ∷ []) x y once h = let flip : false ≡ true = h in absurd (both_ways false refl flip)
two_of (p ∷ q ∷ []) x y once h =
    two_by p q x y once
    (elim (or_cases ((x == p) && (y == q)) ((x == q) && (y == p)) h) [
      | inl w ↦ inl (eqb-true x p (and_first (x == p) (y == q) w), eqb-true y q (and_second (x == p) (y == q) w))
      | inr w ↦ inr (eqb-true x q (and_first (x == q) (y == p) w), eqb-true y p (and_second (x == q) (y == p) w))
    ])
two_of (p ∷ q ∷ r ∷ rs) x y once h = let flip : false ≡ true = h in absurd (both_ways false refl flip)

-- each of two numbers below a size passes where each extension to two referents does
pairs_same : (n : ℕ) (rs : List ℕ) (x y : ℕ) (test : ℕ → ℕ → Bool) (other : (ℕ → ℕ) → Bool) (f : ℕ → ℕ) → Two rs x y
    → ((g : ℕ → ℕ) → other g ≡ test (g x) (g y)) → each_below n (λ a. each_below n (λ b. test a b)) ≡ each_extension n rs other f
pairs_same n rs x y test other f two same =
    let all : Decides (each_below n (λ a. each_below n (λ b. test a b))) ((a : ℕ) → a < n → (b : ℕ) → b < n → test a b ≡ true) =
    each_below-Decides n (λ a. each_below n (λ b. test a b)) (λ a. (b : ℕ) → b < n → test a b ≡ true)
    (λ a. each_below-Decides n (λ b. test a b) (λ b. test a b ≡ true) (λ b. (λ h. h, λ h. h))) in
    let each : Decides (each_extension n rs other f) ((g : ℕ → ℕ) → Extends n rs f g → other g ≡ true) =
    each_extension-Decides n rs other (λ g. other g ≡ true) (λ g. (λ h. h, λ h. h)) f in
    same_tests (each_below n (λ a. each_below n (λ b. test a b))) (each_extension n rs other f)
    (λ h. each.1 (λ g extends.
    same g ∙ all.0 h (g x) (extends.introduced x ((list_any-Contains rs x).0 two.first)) (g y) (extends.introduced y ((list_any-Contains rs y).0 two.second))))
    (λ h. all.1 (λ a la b lb.
    let g : ℕ → ℕ = giving (giving f x a) y b in
    let at_y : giving (giving f x a) y b y ≡ b = same_at (giving f x a) y b y refl in
    let at_x : giving (giving f x a) y b x ≡ a = other_at (giving f x a) y b x (λ e. two.differ (sym e)) ∙ same_at f x a x refl in
    let extends : Extends n rs f (giving (giving f x a) y b) = record {
      introduced = λ q own. elim (two.others q ((list_any-Contains rs q).1 own)) [
        | inl here ↦ subst (λ m. m < n) (sym (sym (ap (giving (giving f x a) y b) here) ∙ at_x)) la
        | inr here ↦ subst (λ m. m < n) (sym (sym (ap (giving (giving f x a) y b) here) ∙ at_y)) lb
      ];
      others = λ q out.
          other_at (giving f x a) y b q (λ here. out (subst (Contains rs) here ((list_any-Contains rs y).0 two.second)))
          ∙ other_at f x a q (λ here. out (subst (Contains rs) here ((list_any-Contains rs x).0 two.first)));
    } in
    sym (λ j. test (at_x j) (at_y j)) ∙ sym (same (giving (giving f x a) y b)) ∙ each.0 h (giving (giving f x a) y b) extends))

-- an implication between two relations
pair_says : (i : Interpretation) (rs : List ℕ) (below : WordId) (x y : ℕ) (above : WordId) (u v : ℕ) (claim : Claim) (l : Structure)
    (pair straight_on swapped : Bool) → all_distinct rs ≡ true → is_pair rs x y ≡ pair → ((u == x) && (v == y)) ≡ straight_on → ((u == y) && (v == x)) ≡ swapped
    → ((f : ℕ → ℕ) → is_true i l f ≡ has_pair i above (f u) (f v))
    → (if not pair then None else if straight_on then Some (SubPropertyOf (straight below) (straight above)) else if swapped
    then Some (SubPropertyOf (straight below) (inverse above)) else None) ≡ Some claim
    → Says i claim (Implication (structure rs (also_condition (AreRelated below (Ref x) (Ref y)) no_condition)) l)
pair_says i rs below x y above u v claim l false straight_on swapped once is_p is_s is_w right e = absurd (no_claim claim e)
pair_says i rs below x y above u v claim l true true swapped once is_p is_s is_w right e =
    says_at i (SubPropertyOf (straight below) (straight above)) claim
    (Implication (structure rs (also_condition (AreRelated below (Ref x) (Ref y)) no_condition)) l)
    (same_Some (SubPropertyOf (straight below) (straight above)) claim e)
    (record {
      truth = λ f. pairs_same i.size rs x y (λ a b. implies (has_pair i below a b) (has_pair i above a b))
          (λ g. implies (has_pair i below (g x) (g y) && true) (is_true i l g)) f (two_of rs x y once is_p)
          (λ g j. implies (and-true (has_pair i below (g x) (g y)) j)
          ((right g ∙ (λ k. has_pair i above (g (eqb-true u x (and_first (u == x) (v == y) is_s) k))
          (g (eqb-true v y (and_second (u == x) (v == y) is_s) k)))) j));
    })
pair_says i rs below x y above u v claim l true false true once is_p is_s is_w right e =
    says_at i (SubPropertyOf (straight below) (inverse above)) claim
    (Implication (structure rs (also_condition (AreRelated below (Ref x) (Ref y)) no_condition)) l)
    (same_Some (SubPropertyOf (straight below) (inverse above)) claim e)
    (record {
      truth = λ f. pairs_same i.size rs x y (λ a b. implies (has_pair i below a b) (has_pair i above b a))
          (λ g. implies (has_pair i below (g x) (g y) && true) (is_true i l g)) f (two_of rs x y once is_p)
          (λ g j. implies (and-true (has_pair i below (g x) (g y)) j)
          ((right g ∙ (λ k. has_pair i above (g (eqb-true u y (and_first (u == y) (v == x) is_w) k))
          (g (eqb-true v x (and_second (u == y) (v == x) is_w) k)))) j));
    })
pair_says i rs below x y above u v claim l true false false once is_p is_s is_w right e = absurd (no_claim claim e)

role_says : (i : Interpretation) (rs : List ℕ) (c d : Condition) (claim : Claim) (l : Structure) → all_distinct rs ≡ true
    → ((f : ℕ → ℕ) → is_true i l f ≡ condition_true i d f) → role_claim rs c d ≡ Some claim
    → Says i claim (Implication (structure rs (also_condition c no_condition)) l)
role_says i rs (AreRelated below (Ref x) (Ref y)) (AreRelated above (Ref u) (Ref v)) claim l once right e =
    pair_says i rs below x y above u v claim l (is_pair rs x y) ((u == x) && (v == y)) ((u == y) && (v == x)) once refl refl refl right e
role_says i rs (AreRelated below (Ref x) (Ref y)) (AreRelated above (Ref u) (Name b)) claim l once right e = absurd (no_claim claim e)
role_says i rs (AreRelated below (Ref x) (Ref y)) (AreRelated above (Name a) t) claim l once right e = absurd (no_claim claim e)
role_says i rs (AreRelated below (Ref x) (Ref y)) (IsA noun t) claim l once right e = absurd (no_claim claim e)
role_says i rs (AreRelated below (Ref x) (Ref y)) (AreSame t u) claim l once right e = absurd (no_claim claim e)
role_says i rs (AreRelated below (Ref x) (Ref y)) (Negation k) claim l once right e = absurd (no_claim claim e)
role_says i rs (AreRelated below (Ref x) (Ref y)) (Implication k m) claim l once right e = absurd (no_claim claim e)
role_says i rs (AreRelated below (Ref x) (Ref y)) (Disjunction k m) claim l once right e = absurd (no_claim claim e)
role_says i rs (AreRelated below (Ref x) (Name b)) d claim l once right e = absurd (no_claim claim e)
role_says i rs (AreRelated below (Name a) t) d claim l once right e = absurd (no_claim claim e)
role_says i rs (IsA noun t) d claim l once right e = absurd (no_claim claim e)
role_says i rs (AreSame t u) d claim l once right e = absurd (no_claim claim e)
role_says i rs (Negation k) d claim l once right e = absurd (no_claim claim e)
role_says i rs (Implication k m) d claim l once right e = absurd (no_claim claim e)
role_says i rs (Disjunction k m) d claim l once right e = absurd (no_claim claim e)

subrole_by : (i : Interpretation) (k l : Structure) (claim : Claim) (o p : Option Condition) → all_distinct (referents_in k) ≡ true → only_condition k ≡ o
    → only_fact l ≡ p → (elim o [ Some c ↦ elim p [ Some d ↦ role_claim (referents_in k) c d | None ↦ None ] | None ↦ None ]) ≡ Some claim
    → Says i claim (Implication k l)
subrole_by i k l claim (Some c) (Some d) once is_c is_d e =
    subst (λ s. Says i claim (Implication s l)) (sym (only_is k c is_c)) (role_says i (referents_in k) c d claim l once (λ f. fact_true i l d is_d f) e)
subrole_by i k l claim (Some c) None once is_c is_d e = absurd (no_claim claim e)
subrole_by i k l claim None p once is_c is_d e = absurd (no_claim claim e)

-- an implication between relations
role_axiom_says : (i : Interpretation) → is_interpretation i ≡ true → (k l : Structure) (claim : Claim) (o : Option Claim)
    → all_distinct (referents_in k) ≡ true
    → subrole_claim k l ≡ o → option_or o (transitive_claim k l) ≡ Some claim → Says i claim (Implication k l)
role_axiom_says i lawful k l claim (Some own) once is e = subrole_by i k l claim (only_condition k) (only_fact l) once refl refl (is ∙ e)
role_axiom_says i lawful k l claim None once is e =
    record { truth = transitive_says i lawful k l claim (two_conditions k) (only_fact l) refl refl (λ d is_d f. fact_true i l d is_d f) e }

-- a condition that is an axiom as it stands
pub plain_says : (i : Interpretation) → is_interpretation i ≡ true → (c : Condition) (claim : Claim) → all_distinct (introduced_in_condition c) ≡ true
    → plain_claim c ≡ Some claim
    → Says i claim c
plain_says i lawful (IsA noun (Name a)) claim once e =
    says_at i (ClassAssertion (Atomic noun) a) claim (IsA noun (Name a)) (same_Some (ClassAssertion (Atomic noun) a) claim e) (record { truth = λ f. refl })
plain_says i lawful (IsA noun (Ref r)) claim once e = absurd (no_claim claim e)
plain_says i lawful (AreRelated word (Name a) (Name b)) claim once e =
    says_at i (PropertyAssertion (straight word) a b) claim (AreRelated word (Name a) (Name b)) (same_Some (PropertyAssertion (straight word) a b) claim e)
    (record { truth = λ f. refl })
plain_says i lawful (AreRelated word (Name a) (Ref r)) claim once e = absurd (no_claim claim e)
plain_says i lawful (AreRelated word (Ref r) t) claim once e = absurd (no_claim claim e)
plain_says i lawful (AreSame (Name a) (Name b)) claim once e =
    says_at i (SameIndividual a b) claim (AreSame (Name a) (Name b)) (same_Some (SameIndividual a b) claim e) (record { truth = λ f. refl })
plain_says i lawful (AreSame (Name a) (Ref r)) claim once e = absurd (no_claim claim e)
plain_says i lawful (AreSame (Ref r) t) claim once e = absurd (no_claim claim e)
plain_says i lawful (Negation k) claim once e = negation_by i k claim (only_fact k) refl e
plain_says i lawful (Implication k l) claim once e =
    role_axiom_says i lawful k l claim (subrole_claim k l)
    (distinct_in k (Rattle.ace_to_owl.proofs.Fresh.apart_of (introduced_in k) (introduced_in l) once).first) refl e
  where
    distinct_in : (s : Structure) → all_distinct (introduced_in s) ≡ true → all_distinct (referents_in s) ≡ true
    distinct_in (structure rs cs) h = (Rattle.ace_to_owl.proofs.Fresh.apart_of rs (introduced_in_all cs) h).first
plain_says i lawful (Disjunction k l) claim once e = absurd (no_claim claim e)

-- a structure of one condition at a root
alone_fresh : (c : Condition) → fresh_in_condition [] c ≡ true → fresh_in [] (alone c) ≡ true
alone_fresh c h = and-true (fresh_in_condition [] c) ∙ h

pub member_says : (i : Interpretation) (name : WordId) (c : Condition) (claim : Claim) → fresh_in_condition [] c ≡ true → member_claim name (alone c) ≡ Ok claim
    → Says i claim c
member_says i name c claim fresh e =
    let w : Went (roll (Some (Name name)) (alone c)) (λ d. Ok (ClassAssertion d name)) claim =
    went (roll (Some (Name name)) (alone c)) (λ d. Ok (ClassAssertion d name)) claim e in
    says_at i (ClassAssertion w.from name) claim c (ok_same (ClassAssertion w.from name) claim w.after)
    (record {
      truth = λ f. roll_true i [] (Some (Name name)) (alone c) w.from (alone_fresh c fresh) tt w.first f (element_of i name) refl
          ∙ and-true (condition_true i c f);
    })

constant : (n : ℕ) (b : Bool) → each_below n (λ x. b) ≡ true → 0 < n → b ≡ true
constant zero b h pos = absurd (omega arith)
constant (suc n) b h pos = and_first b (each_below n (λ x. b)) h

constant_true : (n : ℕ) → each_below n (λ x. true) ≡ true
constant_true zero = refl
constant_true (suc n) = constant_true n

constant_same : (n : ℕ) (b : Bool) → 0 < n → each_below n (λ x. b) ≡ b
constant_same n b pos = same_tests (each_below n (λ x. b)) b (λ h. constant n b h pos) (λ h. ap (λ z. each_below n (λ x. z)) h ∙ constant_true n)

pub other_says : (i : Interpretation) (c : Condition) (claim : Claim) → 0 < i.size → fresh_in_condition [] c ≡ true → other_claim c ≡ Ok claim → Says i claim c
other_says i c claim pos fresh e =
    let w : Went (roll None (alone c)) (λ d. Ok (SubClassOf Everything d)) claim = went (roll None (alone c)) (λ d. Ok (SubClassOf Everything d)) claim e in
    says_at i (SubClassOf Everything w.from) claim c (ok_same (SubClassOf Everything w.from) claim w.after)
    (record {
      truth = λ f.
          ap (each_below i.size) (λ j x. (roll_true i [] None (alone c) w.from (alone_fresh c fresh) tt w.first f x tt ∙ and-true (condition_true i c f)) j)
          ∙ constant_same i.size (condition_true i c f) pos;
    })

-- without one of its referents a structure is true where it is with an element for it
pub without_fresh : (x : ℕ) (k : Structure) → fresh_in [] k ≡ true → is_bound (referents_in k) x ≡ true → fresh_in (x ∷ []) (without x k) ≡ true
without_fresh x (structure rs cs) fresh own =
    and_from (list_all (λ r. not (is_bound (x ∷ []) r)) (filter (λ q. not (q == x)) rs)) (fresh_in_all ((x ∷ []) ++ filter (λ q. not (q == x)) rs) cs)
    (out rs)
    (fresh_less_all ((x ∷ []) ++ filter (λ q. not (q == x)) rs) rs cs less (and_second (list_all (λ r. not (is_bound [] r)) rs) (fresh_in_all rs cs) fresh))
  where
    less : Among ((x ∷ []) ++ filter (λ q. not (q == x)) rs) rs
    less q h = elim (or_cases (x == q) (is_bound (filter (λ p. not (p == x)) rs) q) h) [
      | inl here ↦ sym (ap (is_bound rs) (eqb-true x q here)) ∙ own
      | inr later ↦ (bound_filter (λ p. not (p == x)) rs q later).0
    ]

    out_cond : (t : Bool) (p : ℕ) (more : List ℕ) → (p == x) ≡ t → list_all (λ r. not (is_bound (x ∷ []) r)) more ≡ true
        → list_all (λ r. not (is_bound (x ∷ []) r)) (Rattle.std.specs.Prelude.cond (not t) (p ∷ more) more) ≡ true
    out_cond true p more is h = h
    out_cond false p more is h =
        and_from (not ((x == p) || false)) (list_all (λ r. not (is_bound (x ∷ []) r)) more)
        (not_from ((x == p) || false) (λ g. elim (or_cases (x == p) false g) [
          | inl here ↦ both_ways (p == x) is (eq-eqb p x (sym (eqb-true x p here)))
          | inr is_not ↦ both_ways false refl is_not
        ])) h

    out : (ps : List ℕ) → list_all (λ r. not (is_bound (x ∷ []) r)) (filter (λ q. not (q == x)) ps) ≡ true
    out [] = refl
    out (p ∷ ps) = out_cond (p == x) p (filter (λ q. not (q == x)) ps) refl (out ps)

-- each element for which the left side is true is one for which the right side is
implication_same : (i : Interpretation) (x : ℕ) (rs : List ℕ) (cs : Conditions) (l : Structure) (c d : Concept) → is_bound rs x ≡ true
    → ((g : ℕ → ℕ) (y : ℕ) → g x ≡ y → is_in i c y ≡ is_true i (without x (structure rs cs)) g) → ((g : ℕ → ℕ) (y : ℕ) → g x ≡ y → is_in i d y ≡ is_true i l g)
    → (f : ℕ → ℕ) → holds i (SubClassOf c d) ≡ condition_true i (Implication (structure rs cs) l) f
implication_same i x rs cs l c d own left right f =
    let others : List ℕ = filter (λ q. not (q == x)) rs in
    let all : Decides (each_below i.size (λ y. implies (is_in i c y) (is_in i d y))) ((y : ℕ) → y < i.size → is_in i c y ≡ true → is_in i d y ≡ true) =
    each_below-Decides i.size (λ y. implies (is_in i c y) (is_in i d y)) (λ y. is_in i c y ≡ true → is_in i d y ≡ true)
    (λ y. implication (is_in i c y) (is_in i d y)) in
    let each : Decides (each_extension i.size rs (λ g. implies (all_true i cs g) (is_true i l g)) f)
    ((g : ℕ → ℕ) → Extends i.size rs f g → all_true i cs g ≡ true → is_true i l g ≡ true) =
    each_extension-Decides i.size rs (λ g. implies (all_true i cs g) (is_true i l g)) (λ g. all_true i cs g ≡ true → is_true i l g ≡ true)
    (λ g. implication (all_true i cs g) (is_true i l g)) f in
    same_tests (each_below i.size (λ y. implies (is_in i c y) (is_in i d y))) (each_extension i.size rs (λ g. implies (all_true i cs g) (is_true i l g)) f)
    (λ h. each.1 (λ g extends trues.
    let some : some_extension i.size (filter (λ q. not (q == x)) rs) (λ k. all_true i cs k) g ≡ true =
    (some_extension-Decides i.size (filter (λ q. not (q == x)) rs) (λ k. all_true i cs k) (λ k. all_true i cs k ≡ true) (λ k. (λ t. t, λ t. t)) g).1 (
      g,
      record {
        introduced = λ q in_others. extends.introduced q
            ((list_any-Contains rs q).0 (bound_filter (λ p. not (p == x)) rs q ((list_any-Contains (filter (λ p. not (p == x)) rs) q).1 in_others)).0);
        others = λ q out. refl;
      },
      trues,
    ) in
    sym (right g (g x) refl) ∙ all.0 h (g x) (extends.introduced x ((list_any-Contains rs x).0 own)) (left g (g x) refl ∙ some)))
    (λ h. all.1 (λ y less inside.
    let start : giving f x y x ≡ y = same_at f x y x refl in
    let w : (g : ℕ → ℕ) × Extends i.size (filter (λ q. not (q == x)) rs) (giving f x y) g × (all_true i cs g ≡ true) =
    (some_extension-Decides i.size (filter (λ q. not (q == x)) rs) (λ k. all_true i cs k) (λ k. all_true i cs k ≡ true) (λ k. (λ t. t, λ t. t))
    (giving f x y)).0
    (sym (left (giving f x y) y start) ∙ inside) in
    let kept : w.0 x ≡ y = w.1.others x (λ in_others. not_both (x == x)
    (bound_filter (λ p. not (p == x)) rs x ((list_any-Contains (filter (λ p. not (p == x)) rs) x).1 in_others)).1 (eq-eqb x x refl)) ∙ start in
    let extends : Extends i.size rs f w.0 = record {
      introduced = λ q own_q. elim (cases_eq q x) [
        | inl same ↦ subst (λ m. m < i.size) (sym (ap w.0 same ∙ kept)) less
        | inr ne ↦ w.1.introduced q ((list_any-Contains (filter (λ p. not (p == x)) rs) q).0
            (filter_bound (λ p. not (p == x)) rs q ((list_any-Contains rs q).1 own_q) (ap not (ne_eqb q x ne))))
      ];
      others = λ q out.
          w.1.others q (λ in_others. out
          ((list_any-Contains rs q).0 (bound_filter (λ p. not (p == x)) rs q ((list_any-Contains (filter (λ p. not (p == x)) rs) q).1 in_others)).0))
          ∙ other_at f x y q (λ same. out (subst (Contains rs) same ((list_any-Contains rs x).0 own)));
    } in
    right w.0 y kept ∙ each.0 h w.0 extends w.2))
  where
    implication : (a b : Bool) → Decides (implies a b) (a ≡ true → b ≡ true)
    implication true b = (λ h t. h, λ h. h refl)
    implication false b = (λ h t. absurd (both_ways false refl t), λ h. refl)

subclass_by : (i : Interpretation) (x : ℕ) (k l : Structure) (c d : Concept) → is_bound (referents_in k) x ≡ true
    → ((g : ℕ → ℕ) (y : ℕ) → g x ≡ y → is_in i c y ≡ is_true i (without x k) g) → ((g : ℕ → ℕ) (y : ℕ) → g x ≡ y → is_in i d y ≡ is_true i l g) → (f : ℕ → ℕ)
    → holds i (SubClassOf c d) ≡ condition_true i (Implication k l) f
subclass_by i x (structure rs cs) l c d own left right f = implication_same i x rs cs l c d own left right f

one_covered : (x : ℕ) → is_bound (x ∷ []) x ≡ true
one_covered x = ap (λ b. b || false) (eq-eqb x x refl)

pub subclass_says : (i : Interpretation) (x : ℕ) (k l : Structure) (claim : Claim) → fresh_in_condition [] (Implication k l) ≡ true
    → is_bound (referents_in k) x ≡ true → subclass_claim x k l ≡ Ok claim → Says i claim (Implication k l)
subclass_says i x k l claim fresh own e =
    let w : Went (roll (Some (Ref x)) (without x k)) (λ c. next (roll (Some (Ref x)) l) (λ d. Ok (SubClassOf c d))) claim =
    went (roll (Some (Ref x)) (without x k)) (λ c. next (roll (Some (Ref x)) l) (λ d. Ok (SubClassOf c d))) claim e in
    let v : Went (roll (Some (Ref x)) l) (λ d. Ok (SubClassOf w.from d)) claim = went (roll (Some (Ref x)) l) (λ d. Ok (SubClassOf w.from d)) claim w.after in
    let left : fresh_in (x ∷ []) (without x k) ≡ true = without_fresh x k (and_first (fresh_in [] k) (fresh_in (referents_in k) l) fresh) own in
    let right : fresh_in (x ∷ []) l ≡ true = fresh_less (x ∷ []) (referents_in k) l
    (λ q h. elim (or_cases (x == q) false h) [
      | inl here ↦ sym (ap (is_bound (referents_in k)) (eqb-true x q here)) ∙ own
      | inr is_not ↦
          absurd (both_ways false refl is_not)
    ])
    (and_second (fresh_in [] k) (fresh_in (referents_in k) l) fresh) in
    says_at i (SubClassOf w.from v.from) claim (Implication k l) (ok_same (SubClassOf w.from v.from) claim v.after)
    (record {
      truth = subclass_by i x k l w.from v.from own
          (λ g y at. roll_true i (x ∷ []) (Some (Ref x)) (without x k) w.from left (one_covered x) w.first g y at)
          (λ g y at. roll_true i (x ∷ []) (Some (Ref x)) l v.from right (one_covered x) v.first g y at);
    })

-- the cases, one after another
leading_by : (i : Interpretation) (k l : Structure) (rs : List ℕ) (claim : Claim) → 0 < i.size → fresh_in_condition [] (Implication k l) ≡ true
    → referents_in k ≡ rs → leading_claim k l rs ≡ Ok claim → Says i claim (Implication k l)
leading_by i k l [] claim pos fresh is e = other_says i (Implication k l) claim pos fresh e
leading_by i k l (x ∷ xs) claim pos fresh is e =
    subclass_says i x k l claim fresh (ap (λ rs. is_bound rs x) is ∙ ap (λ b. b || is_bound xs x) (eq-eqb x x refl)) e

nameless_says : (i : Interpretation) (c : Condition) (claim : Claim) → 0 < i.size → fresh_in_condition [] c ≡ true → nameless_claim c ≡ Ok claim
    → Says i claim c
nameless_says i (Implication k l) claim pos fresh e = leading_by i k l (referents_in k) claim pos fresh refl e
nameless_says i (IsA noun t) claim pos fresh e = other_says i (IsA noun t) claim pos fresh e
nameless_says i (AreRelated word t u) claim pos fresh e = other_says i (AreRelated word t u) claim pos fresh e
nameless_says i (AreSame t u) claim pos fresh e = other_says i (AreSame t u) claim pos fresh e
nameless_says i (Negation k) claim pos fresh e = other_says i (Negation k) claim pos fresh e
nameless_says i (Disjunction k l) claim pos fresh e = other_says i (Disjunction k l) claim pos fresh e

named_by : (i : Interpretation) (c : Condition) (claim : Claim) (o : Option WordId) → 0 < i.size → fresh_in_condition [] c ≡ true
    → ◌≡◌ {A = Result Claim Cause} (elim o [ Some name ↦ member_claim name (alone c) | None ↦ nameless_claim c ]) (Ok claim) → Says i claim c
named_by i c claim (Some name) pos fresh e = member_says i name c claim fresh e
named_by i c claim None pos fresh e = nameless_says i c claim pos fresh e

named_says : (i : Interpretation) (c : Condition) (claim : Claim) → 0 < i.size → fresh_in_condition [] c ≡ true → named_claim c ≡ Ok claim → Says i claim c
named_says i c claim pos fresh e = named_by i c claim (first_name (terms_in_condition [] c)) pos fresh e

used_by : (i : Interpretation) (k l : Structure) (used : List ℕ) (claim : Claim) → 0 < i.size → fresh_in_condition [] (Implication k l) ≡ true
    → ((q : ℕ) → is_bound used q ≡ true → is_bound (referents_in k) q ≡ true) → used_claim k l used ≡ Ok claim → Says i claim (Implication k l)
used_by i k l [] claim pos fresh own e = named_says i (Implication k l) claim pos fresh e
used_by i k l (x ∷ xs) claim pos fresh own e = by (list_all (λ q. q == x) xs) e
  where
    by : (b : Bool) → (if b then subclass_claim x k l else Err Shared) ≡ Ok claim → Says i claim (Implication k l)
    by true h = subclass_says i x k l claim fresh (own x (ap (λ b. b || is_bound xs x) (eq-eqb x x refl))) h
    by false h = absurd (no_err Shared claim h)

compound_says : (i : Interpretation) (c : Condition) (claim : Claim) → 0 < i.size → fresh_in_condition [] c ≡ true → compound_claim c ≡ Ok claim
    → Says i claim c
compound_says i (Implication k l) claim pos fresh e =
    used_by i k l (referents_among (referents_in k) (terms_in [] l)) claim pos fresh
    (λ q h. Rattle.ace_to_owl.proofs.TermsTruth.own_bound (referents_in k) (terms_in [] l) q h) e
compound_says i (IsA noun t) claim pos fresh e = named_says i (IsA noun t) claim pos fresh e
compound_says i (AreRelated word t u) claim pos fresh e = named_says i (AreRelated word t u) claim pos fresh e
compound_says i (AreSame t u) claim pos fresh e = named_says i (AreSame t u) claim pos fresh e
compound_says i (Negation k) claim pos fresh e = named_says i (Negation k) claim pos fresh e
compound_says i (Disjunction k l) claim pos fresh e = named_says i (Disjunction k l) claim pos fresh e

-- an interpretation has an element
first_of_all : (a b c d e f g : Bool) → ((((((a && b) && c) && d) && e) && f) && g) ≡ true → a ≡ true
first_of_all a b c d e f g h =
    and_first a b (and_first (a && b) c (and_first ((a && b) && c) d
    (and_first (((a && b) && c) && d) e (and_first ((((a && b) && c) && d) && e) f (and_first (((((a && b) && c) && d) && e) && f) g h)))))

pub positive : (i : Interpretation) → is_interpretation i ≡ true → 0 < i.size
positive i lawful = ltb-true 0 i.size (first_of_all _ _ _ _ _ _ _ lawful)

alone_by : (i : Interpretation) (c : Condition) (claim : Claim) (o : Option Claim) → is_interpretation i ≡ true
    → all_distinct (introduced_in_condition c) ≡ true
    → fresh_in_condition [] c ≡ true → plain_claim c ≡ o → ◌≡◌ {A = Result Claim Cause} (elim o [ Some plain ↦ Ok plain | None ↦ compound_claim c ]) (Ok claim)
    → Says i claim c
alone_by i c claim (Some plain) lawful once fresh is e = says_at i plain claim c (ok_same plain claim e) (plain_says i lawful c plain once is)
alone_by i c claim None lawful once fresh is e = compound_says i c claim (positive i lawful) fresh e

pub alone_says : (i : Interpretation) (c : Condition) (claim : Claim) → is_interpretation i ≡ true → all_distinct (introduced_in_condition c) ≡ true
    → fresh_in_condition [] c ≡ true → claim_alone c ≡ Ok claim → Says i claim c
alone_says i c claim lawful once fresh e = alone_by i c claim (plain_claim c) lawful once fresh refl e

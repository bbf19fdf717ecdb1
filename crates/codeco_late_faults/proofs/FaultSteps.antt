-- What each look for a first fault says of the faults that hold.
use Rattle.std.proofs.Common.{◌≡◌, ℕ, ◌+◌, ◌<◌, Bool, List, subst, sym, ap, ◌∙◌, arith, Some, None, Option}
use Rattle.std.specs.Prelude.{◌-◌, IsTrue, IfOk, Result, ◌==◌, slice_get}
use Rattle.std.specs.List.{list_any}
use Rattle.std.proofs.lemmas.Result.{IfOk-weaker}
use Rattle.std.proofs.lemmas.Option.{slice_get_within}
use Rattle.lists.specs.declared.memory.Memory.{Memory}
use Rattle.codeco_terms.specs.declared.rules.Rule.{Rule}
use Rattle.codeco_terms.specs.GrammarParts.{GrammarParts}
use Rattle.codeco_checked.specs.declared.fault.GrammarFault.TheVariants.{BadValue, EmptyRule, LeftRecursion, TakenVariable, LabelKind}
use Rattle.codeco_checked.specs.Faults.{is_bad_rule, is_empty_rule, IsRecursive, is_taking_rule, has_start}
use Rattle.codeco_checked.specs.FirstFault.{IsFirst}
use Rattle.codeco_labels.specs.Misfits.{FirstMisfit}
use Rattle.codeco_late_faults.specs.First.{IsNowhere, IsFirstPlace, FindsFirst}
use Rattle.codeco_late_faults.proofs.PlaceLemmas.{first_below, finds_same}
use Rattle.codeco_late_faults.specs.Steps.{Reaches, leads, HasFollowers}
use Rattle.codeco_late_faults.proofs.StepLemmas.{recursive_reaches, reaches_recursive}
use Rattle.codeco_late_faults.proofs.FirstFaults.{NoneBelow, NoneEarly, none_of, first_of, bad_fault, empty_fault, recursive_fault, taking_fault, first_label, below_start, early_below, early_double, few_rules}

finds_none : (P : Rule → Type 0) (xs ys : List Rule) (o : Option ℕ) → xs ≡ ys → o ≡ None → FindsFirst P xs o → IsNowhere P ys
finds_none P xs ys o e k h = subst (λ z. IsNowhere P z) e (subst (λ z. FindsFirst P xs z) k h)

finds_some : (P : Rule → Type 0) (xs ys : List Rule) (o : Option ℕ) (i : ℕ) → xs ≡ ys → o ≡ Some i → FindsFirst P xs o → IsFirstPlace P ys i
finds_some P xs ys o i e k h = subst (λ z. IsFirstPlace P z i) e (subst (λ z. FindsFirst P xs z) k h)

-- a place that is found is small
pub place_few : (g : GrammarParts) (P : Rule → Type 0) (xs : List Rule) (o : Option ℕ) (i : ℕ) → NoneEarly g → xs ≡ g.rules → o ≡ Some i → FindsFirst P xs o
    → i < 500
place_few g P xs o i early e k h =
    let below = first_below P g.rules i (finds_some P xs g.rules o i e k h) in
    let few = few_rules g early in
    omega arith

-- the facts of the looks
abbrev pub IsBad : GrammarParts → Rule → Type 0
IsBad g r = IsTrue (is_bad_rule g r)

abbrev pub IsEmpty : Rule → Type 0
IsEmpty r = IsTrue (is_empty_rule r)

abbrev pub IsLooping : GrammarParts → Rule → Type 0
IsLooping g r = IsRecursive g r.head.name

abbrev pub IsTaking : Rule → Type 0
IsTaking r = IsTrue (is_taking_rule r)

pub below_empty : (g : GrammarParts) (o : Option ℕ) → NoneEarly g → o ≡ None → FindsFirst (IsBad g) g.rules o → NoneBelow g 5
below_empty g o early k h = none_of g 4 (λ n. BadValue n) (IsBad g) (bad_fault g (early_double g early)) (early_below g early)
    (subst (λ z. FindsFirst (IsBad g) g.rules z) k h)

pub below_recursion : (g : GrammarParts) (xs : List Rule) (o : Option ℕ) → NoneBelow g 5 → xs ≡ g.rules → o ≡ None → FindsFirst IsEmpty xs o → NoneBelow g 6
below_recursion g xs o below e k h = none_of g 5 (λ n. EmptyRule n) IsEmpty (empty_fault g) below (finds_none IsEmpty xs g.rules o e k h)

pub below_taking : (g : GrammarParts) (o : Option ℕ) → NoneBelow g 6 → o ≡ None → FindsFirst (IsLooping g) g.rules o → NoneBelow g 7
below_taking g o below k h = none_of g 6 (λ n. LeftRecursion n) (IsLooping g) (recursive_fault g) below (subst (λ z. FindsFirst (IsLooping g) g.rules z) k h)

pub below_labels : (g : GrammarParts) (xs : List Rule) (o : Option ℕ) → NoneBelow g 7 → xs ≡ g.rules → o ≡ None → FindsFirst IsTaking xs o → NoneBelow g 8
below_labels g xs o below e k h = none_of g 7 (λ n. TakenVariable n) IsTaking (taking_fault g) below (finds_none IsTaking xs g.rules o e k h)

pub first_bad : (g : GrammarParts) (o : Option ℕ) (i n : ℕ) → NoneEarly g → o ≡ Some i → n ≡ i + 1 → FindsFirst (IsBad g) g.rules o → IsFirst g (BadValue n)
first_bad g o i n early k e h = subst (λ m. IsFirst g (BadValue m)) (sym e)
    (first_of g 4 (λ m. BadValue m) (IsBad g) (bad_fault g (early_double g early)) (early_below g early) i (subst (λ z. FindsFirst (IsBad g) g.rules z) k h))

pub first_empty : (g : GrammarParts) (xs : List Rule) (o : Option ℕ) (i n : ℕ) → NoneBelow g 5 → xs ≡ g.rules → o ≡ Some i → n ≡ i + 1 → FindsFirst IsEmpty xs o
    → IsFirst g (EmptyRule n)
first_empty g xs o i n below same k e h =
    subst (λ m. IsFirst g (EmptyRule m)) (sym e) (first_of g 5 (λ m. EmptyRule m) IsEmpty (empty_fault g) below i (finds_some IsEmpty xs g.rules o i same k h))

pub first_recursive : (g : GrammarParts) (o : Option ℕ) (i n : ℕ) → NoneBelow g 6 → o ≡ Some i → n ≡ i + 1 → FindsFirst (IsLooping g) g.rules o
    → IsFirst g (LeftRecursion n)
first_recursive g o i n below k e h = subst (λ m. IsFirst g (LeftRecursion m)) (sym e)
    (first_of g 6 (λ m. LeftRecursion m) (IsLooping g) (recursive_fault g) below i (subst (λ z. FindsFirst (IsLooping g) g.rules z) k h))

pub first_taking : (g : GrammarParts) (xs : List Rule) (o : Option ℕ) (i n : ℕ) → NoneBelow g 7 → xs ≡ g.rules → o ≡ Some i → n ≡ i + 1
    → FindsFirst IsTaking xs o → IsFirst g (TakenVariable n)
first_taking g xs o i n below same k e h =
    subst (λ m. IsFirst g (TakenVariable m)) (sym e)
    (first_of g 7 (λ m. TakenVariable m) IsTaking (taking_fault g) below i (finds_some IsTaking xs g.rules o i same k h))

misfit_of : (xs ys : List Rule) (o p : Option ℕ) → xs ≡ ys → o ≡ p → FirstMisfit xs o → FirstMisfit ys p
misfit_of xs ys o p e k h = subst (λ z. FirstMisfit z p) e (subst (FirstMisfit xs) k h)

pub first_unfit : (g : GrammarParts) (xs : List Rule) (o : Option ℕ) (i n : ℕ) → NoneBelow g 8 → xs ≡ g.rules → o ≡ Some i → n ≡ i + 1 → FirstMisfit xs o
    → IsFirst g (LabelKind n)
first_unfit g xs o i n below same k e h = subst (λ m. IsFirst g (LabelKind m)) (sym e) (first_label g below i (misfit_of xs g.rules o (Some i) same k h))

pub none_unfit : (g : GrammarParts) (xs : List Rule) (o : Option ℕ) → NoneBelow g 8 → xs ≡ g.rules → o ≡ None → FirstMisfit xs o → NoneBelow g 9
none_unfit g xs o below same k h = below_start g below (misfit_of xs g.rules o None same k h)

-- the place of a misfit is small
pub misfit_few : (g : GrammarParts) (xs : List Rule) (o : Option ℕ) (i : ℕ) → NoneEarly g → xs ≡ g.rules → o ≡ Some i → FirstMisfit xs o → i < 500
misfit_few g xs o i early same k h =
    let first = misfit_of xs g.rules o (Some i) same k h in
    let back : (i + 1) - 1 ≡ i = omega arith in
    let below = slice_get_within g.rules i first.0.0 (ap (slice_get g.rules) (sym back) ∙ first.0.2) in
    let few = few_rules g early in
    omega arith

-- the look for recursion goes by the table of followers
pub looping : (g : GrammarParts) (xs : List Rule) (table : List (List ℕ)) (r : Result (Option ℕ) Memory) → xs ≡ g.rules → HasFollowers xs table
    → IfOk r (λ found. FindsFirst (λ x. Reaches (leads table) x.head.name x.head.name) xs found) → IfOk r (λ found. FindsFirst (IsLooping g) g.rules found)
looping g xs table r e all h =
    let whole : HasFollowers g.rules table = subst (λ z. HasFollowers z table) e all in
    IfOk-weaker r (λ found. FindsFirst (λ (x : Rule). Reaches (leads table) x.head.name x.head.name) xs found) (λ found. FindsFirst (IsLooping g) g.rules found)
    (λ found f.
    finds_same (λ (x : Rule). Reaches (leads table) x.head.name x.head.name) (IsLooping g) g.rules found (λ x. reaches_recursive g table whole x.head.name)
    (λ x. recursive_reaches g table whole x.head.name) (subst (λ z. FindsFirst (λ (x : Rule). Reaches (leads table) x.head.name x.head.name) z found) e f))
    h

pub start_is : (g : GrammarParts) (xs : List Rule) (b v : Bool) → xs ≡ g.rules → b ≡ list_any (λ r. r.head.name == 5) xs → b ≡ v → has_start g ≡ v
start_is g xs b v e h k = ap (list_any (λ r. r.head.name == 5)) (sym e) ∙ sym h ∙ k

-- The first free referent, condition by condition.
use Rattle.std.proofs.Common.{◌≡◌, ℕ, zero, suc, ◌+◌, ◌≤◌, List, [], ◌∷◌, ◌++◌, length, drop, refl, sym, ap, ◌∙◌, add-one, Option, Some, None}
use Rattle.std.specs.Prelude.{slice_get}
use Rattle.std.specs.Option.{option_or}
use Rattle.wiki_base.proofs.ListLaws.{drop_past}
use Rattle.logic_terms.specs.Structure.{Condition, Conditions, Structure, no_condition, also_condition, structure, conditions_from, condition_list, conditions_in, referents_in}
use Rattle.logic_terms.specs.Free.{free_in, free_in_all, free_in_condition}

conditions_back : (cs : Conditions) → conditions_from (condition_list cs) ≡ cs
conditions_back no_condition = refl
conditions_back (also_condition c cs) = ap (also_condition c) (conditions_back cs)

pub free_in_is : (bound : List ℕ) (k : Structure) → free_in_all (referents_in k ++ bound) (conditions_from (conditions_in k)) ≡ free_in bound k
free_in_is bound (structure rs cs) = ap (free_in_all (rs ++ bound)) (conditions_back cs)

pub drop_next : {X : Type 0} (xs : List X) (i : ℕ) (x : X) → slice_get xs i ≡ Some x → drop i xs ≡ x ∷ drop (suc i) xs
drop_next [] i x h = absurd cc
drop_next (y ∷ ys) zero x h = let same : y ≡ x = cc in ap (λ z. z ∷ ys) same
drop_next (y ∷ ys) (suc i) x h = drop_next ys i x h

-- what is left from a place decides
abbrev pub left_free : List ℕ → List Condition → ℕ → Option ℕ
left_free bound cs i = free_in_all bound (conditions_from (drop i cs))

pub here_free : (bound : List ℕ) (cs : List Condition) (i : ℕ) (c : Condition) (r : ℕ) → slice_get cs i ≡ Some c → Some r ≡ free_in_condition bound c
    → left_free bound cs i ≡ Some r
here_free bound cs i c r at is = ap (λ xs. free_in_all bound (conditions_from xs)) (drop_next cs i c at)
    ∙ ap (λ o. option_or o (free_in_all bound (conditions_from (drop (suc i) cs)))) (sym is)

pub later_free : (bound : List ℕ) (cs : List Condition) (i : ℕ) (c : Condition) → slice_get cs i ≡ Some c → None ≡ free_in_condition bound c
    → left_free bound cs (i + 1) ≡ left_free bound cs i
later_free bound cs i c at is =
    ap (left_free bound cs) (add-one i)
    ∙ ap (λ o. option_or o (free_in_all bound (conditions_from (drop (suc i) cs)))) is
    ∙ sym (ap (λ xs. free_in_all bound (conditions_from xs)) (drop_next cs i c at))

pub none_free : (bound : List ℕ) (cs : List Condition) (i : ℕ) → length cs ≤ i → left_free bound cs i ≡ None
none_free bound cs i le = ap (λ xs. free_in_all bound (conditions_from xs)) (drop_past cs i le)

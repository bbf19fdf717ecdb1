-- The terms of a structure, by its lists.
use Rattle.std.proofs.Common.{◌≡◌, ℕ, List, ◌++◌, refl, sym, ap, ◌∙◌}
use Rattle.logic_terms.specs.Structure.{Condition, Conditions, Structure, no_condition, also_condition, structure, conditions_from, condition_list, referents_in, conditions_in}
use Rattle.ace_to_owl.specs.Terms.{terms_in, terms_in_all}

pub conditions_from-condition_list : (cs : Conditions) → conditions_from (condition_list cs) ≡ cs
conditions_from-condition_list no_condition = refl
conditions_from-condition_list (also_condition c cs) = ap (also_condition c) (conditions_from-condition_list cs)

pub structure_by : (k : Structure) → k ≡ structure (referents_in k) (conditions_from (conditions_in k))
structure_by (structure rs cs) = ap (structure rs) (sym (conditions_from-condition_list cs))

-- found with a structure's conditions and all its referents bound
pub terms_of_structure : (bound : List ℕ) (k : Structure) (rs : List ℕ) (cs : List Condition) → rs ≡ referents_in k → cs ≡ conditions_in k
    → terms_in_all (bound ++ rs) (conditions_from cs) ≡ terms_in bound k
terms_of_structure bound k rs cs referents conditions =
    (λ j. terms_in_all (bound ++ referents j) (conditions_from (conditions j)))
    ∙ sym (ap (terms_in bound) (structure_by k))

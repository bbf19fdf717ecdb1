-- Structures put together.
use Rattle.std.proofs.Common.{◌≡◌, List, [], ◌∷◌, ◌++◌, map, refl, ap}
use Rattle.logic_terms.specs.declared.structures.Cond.{Cond}
use Rattle.logic_terms.specs.Structure.{also_condition, conditions_from}
use Rattle.logic_terms.specs.Shown.{condition_of}
use Rattle.drs_build.specs.Joining.{both}

pub conditions_joined : (xs ys : List Cond)
    → conditions_from (map condition_of (xs ++ ys)) ≡ both (conditions_from (map condition_of xs)) (conditions_from (map condition_of ys))
conditions_joined [] ys = refl
conditions_joined (x ∷ xs) ys = ap (also_condition (condition_of x)) (conditions_joined xs ys)

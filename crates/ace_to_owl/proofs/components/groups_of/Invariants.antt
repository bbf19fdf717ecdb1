use Rattle.std.proofs.Common.{◌≡◌, take, map}
use Rattle.logic_terms.specs.Shown.{conditions_of}
use Rattle.ace_to_owl.specs.Mapping.{own_terms}
use Rattle.ace_to_owl.proofs.components.groups_of.Given as goal

abbrev pub invariant-loop-place : goal.invariant-loop-place
invariant-loop-place l = l.groups ≡ map (own_terms l.referents) (take l.place (conditions_of l.conditions))

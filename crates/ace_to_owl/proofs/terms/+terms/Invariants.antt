use Rattle.std.proofs.Common.{◌≡◌, ◌+◌, ◌*◌, ◌++◌, max, drop}
use Rattle.logic_terms.specs.declared.structures.Cond.TheViews.{size-Cond, size-Conds, size-Drs}
use Rattle.logic_terms.specs.Shown.{conditions_of}
use Rattle.logic_terms.specs.Structure.{conditions_from}
use Rattle.ace_to_owl.specs.Terms.{terms_in_all}
use Rattle.ace_to_owl.proofs.terms.+terms.Given as goal

abbrev pub decreases-add_structure : goal.decreases-add_structure
decreases-add_structure l = size-Drs l.drs.now * 2

abbrev pub decreases-add_conditions : goal.decreases-add_conditions
decreases-add_conditions l = size-Conds l.conditions.now * 2

abbrev pub decreases-add_condition : goal.decreases-add_condition
decreases-add_condition l = size-Cond l.condition.now * 2

abbrev pub decreases-add_implication : goal.decreases-add_implication
decreases-add_implication l = max (size-Drs l.left.now) (size-Drs l.right.now) * 2 + 1

abbrev pub decreases-add_either : goal.decreases-add_either
decreases-add_either l = max (size-Drs l.left.now) (size-Drs l.right.now) * 2 + 1

abbrev pub invariant-add_conditions-loop-place : goal.invariant-add_conditions-loop-place
invariant-add_conditions-loop-place l = record {
  left : l.found ++ terms_in_all l.initial.bound (conditions_from (drop l.place (conditions_of l.conditions)))
      ≡ l.initial.found ++ terms_in_all l.initial.bound (conditions_from (conditions_of l.conditions));
  kept : l.bound ≡ l.initial.bound;
}

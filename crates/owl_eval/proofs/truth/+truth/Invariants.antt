use Rattle.std.proofs.Common.{◌≡◌, ◌+◌, ◌*◌, ◌^◌, max, true, false, take, length}
use Rattle.logic_terms.specs.declared.structures.Cond.TheViews.{size-Cond, size-Conds, size-Drs}
use Rattle.logic_terms.specs.Shown.{structure_of, conditions_of}
use Rattle.logic_terms.specs.Truth.{giving, some_extension, each_extension}
use Rattle.logic_terms.specs.Meaning.{some_below, each_below}
use Rattle.owl_eval.specs.Assigned.{assigned, each_condition, carries_over}
use Rattle.owl_eval.proofs.truth.+truth.Given as goal

-- the depth first, then the referents that are left
abbrev pub decreases-structure_true : goal.decreases-structure_true
decreases-structure_true l = size-Drs l.drs.now * 2 ^ 66

abbrev pub decreases-some_extension_true : goal.decreases-some_extension_true
decreases-some_extension_true l = size-Conds l.conditions.now * 2 ^ 66 + length l.referents.now + 1

abbrev pub decreases-either_true : goal.decreases-either_true
decreases-either_true l = max (size-Drs l.left.now) (size-Drs l.right.now) * 2 ^ 66 + 1

abbrev pub decreases-each_extension_true : goal.decreases-each_extension_true
decreases-each_extension_true l = max (size-Conds l.conditions.now) (size-Drs l.right.now) * 2 ^ 66 + length l.referents.now + 2

abbrev pub decreases-if_then_true : goal.decreases-if_then_true
decreases-if_then_true l = max (size-Conds l.conditions.now) (size-Drs l.right.now) * 2 ^ 66 + 1

abbrev pub decreases-conditions_true : goal.decreases-conditions_true
decreases-conditions_true l = size-Conds l.conditions.now * 2 ^ 66

abbrev pub decreases-holds : goal.decreases-holds
decreases-holds l = size-Cond l.condition.now * 2 ^ 66

abbrev pub invariant-conditions_true-loop-place : goal.invariant-conditions_true-loop-place
invariant-conditions_true-loop-place l =
    record {
      kept : l.given.items ≡ l.initial.given.items;
      so_far : each_condition l.interp (take l.place (conditions_of l.conditions)) (assigned l.initial.given.items) ≡ true;
    }

abbrev pub invariant-each_extension_true-loop-element : goal.invariant-each_extension_true-loop-element
invariant-each_extension_true-loop-element l =
    record {
      kept : l.given.items ≡ l.initial.given.items;
      so_far : each_below l.element (λ x. each_extension l.interp.size l.rest (carries_over l.interp (conditions_of l.conditions) (structure_of l.right))
          (giving (assigned l.initial.given.items) l.first x)) ≡ true;
    }

abbrev pub invariant-some_extension_true-loop-element : goal.invariant-some_extension_true-loop-element
invariant-some_extension_true-loop-element l =
    record {
      kept : l.given.items ≡ l.initial.given.items;
      so_far : some_below l.element (λ x. some_extension l.interp.size l.rest (each_condition l.interp (conditions_of l.conditions))
          (giving (assigned l.initial.given.items) l.first x)) ≡ false;
    }

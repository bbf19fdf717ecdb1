use Rattle.std.proofs.Common.{rules}
use Rattle.codeco_late_faults.proofs.FirstFaults.{first_start, none_left}
use Rattle.codeco_late_faults.proofs.FaultSteps.{IsBad, IsEmpty, IsLooping, IsTaking, place_few, misfit_few, start_is, below_empty, below_recursion, below_taking, below_labels, none_unfit, first_unfit, first_bad, first_empty, first_recursive, first_taking}
use Rattle.codeco_late_faults.proofs.first.first_fault.Goals as goal

pub number_at-requires : goal.number_at-requires
number_at-requires c = place_few c.args.grammar.now (IsBad c.args.grammar.now) c.args.grammar.now.rules c.in_ok-place.field-0 c.in-Some.place c.requires.early
    (search rules) c.in-Some.is c.in_ok-place.ensures

pub returns-in-Some-clause-first : goal.returns-in-Some-clause-first
returns-in-Some-clause-first c = first_bad c.args.grammar.now c.in_ok-place.field-0 c.in-Some.place c.number_at.result c.requires.early c.in-Some.is
    c.number_at.ensures c.in_ok-place.ensures

pub number_at-requires-in-Some-first_empty_rule : goal.number_at-requires-in-Some-first_empty_rule
number_at-requires-in-Some-first_empty_rule c =
    place_few c.args.grammar.now IsEmpty c.as_slice-rules.result.now c.first_empty_rule.result c.in-Some-first_empty_rule.place c.requires.early (search rules)
    c.in-Some-first_empty_rule.is c.first_empty_rule.ensures

pub returns-in-Some-first_empty_rule-clause-first : goal.returns-in-Some-first_empty_rule-clause-first
returns-in-Some-first_empty_rule-clause-first c =
    first_empty c.args.grammar.now c.as_slice-rules.result.now c.first_empty_rule.result c.in-Some-first_empty_rule.place
    c.number_at-in-Some-first_empty_rule.result (below_empty c.args.grammar.now c.in_ok-place.field-0 c.requires.early c.in_default.is c.in_ok-place.ensures)
    (search rules) c.in-Some-first_empty_rule.is c.number_at-in-Some-first_empty_rule.ensures c.first_empty_rule.ensures

pub number_at-requires-in-Some-2 : goal.number_at-requires-in-Some-2
number_at-requires-in-Some-2 c = place_few c.args.grammar.now (IsLooping c.args.grammar.now) c.args.grammar.now.rules c.in_ok-place-2.field-0 c.in-Some-2.place
    c.requires.early (search rules) c.in-Some-2.is c.in_ok-place-2.ensures

pub returns-in-Some-2-clause-first : goal.returns-in-Some-2-clause-first
returns-in-Some-2-clause-first c = first_recursive c.args.grammar.now c.in_ok-place-2.field-0 c.in-Some-2.place c.number_at-in-Some-2.result
    (below_recursion c.args.grammar.now c.as_slice-rules.result.now c.first_empty_rule.result
    (below_empty c.args.grammar.now c.in_ok-place.field-0 c.requires.early c.in_default.is c.in_ok-place.ensures) (search rules)
    c.in_default-first_empty_rule.is c.first_empty_rule.ensures) c.in-Some-2.is c.number_at-in-Some-2.ensures c.in_ok-place-2.ensures

pub number_at-requires-in-Some-first_taking_rule : goal.number_at-requires-in-Some-first_taking_rule
number_at-requires-in-Some-first_taking_rule c =
    place_few c.args.grammar.now IsTaking c.as_slice-rules.result.now c.first_taking_rule.result c.in-Some-first_taking_rule.place c.requires.early
    (search rules) c.in-Some-first_taking_rule.is c.first_taking_rule.ensures

pub returns-in-Some-first_taking_rule-clause-first : goal.returns-in-Some-first_taking_rule-clause-first
returns-in-Some-first_taking_rule-clause-first c =
    first_taking c.args.grammar.now c.as_slice-rules.result.now c.first_taking_rule.result c.in-Some-first_taking_rule.place
    c.number_at-in-Some-first_taking_rule.result
    (below_taking c.args.grammar.now c.in_ok-place-2.field-0
    (below_recursion c.args.grammar.now c.as_slice-rules.result.now c.first_empty_rule.result
    (below_empty c.args.grammar.now c.in_ok-place.field-0 c.requires.early c.in_default.is c.in_ok-place.ensures) (search rules)
    c.in_default-first_empty_rule.is c.first_empty_rule.ensures) c.in_default-2.is c.in_ok-place-2.ensures) (search rules) c.in-Some-first_taking_rule.is
    c.number_at-in-Some-first_taking_rule.ensures c.first_taking_rule.ensures

pub number_at-requires-in-Some-3 : goal.number_at-requires-in-Some-3
number_at-requires-in-Some-3 c = misfit_few c.args.grammar.now c.as_slice-rules.result.now c.in_ok-place-3.field-0 c.in-Some-3.place c.requires.early
    (search rules) c.in-Some-3.is c.in_ok-place-3.ensures

pub returns-in-Some-3-clause-first : goal.returns-in-Some-3-clause-first
returns-in-Some-3-clause-first c = first_unfit c.args.grammar.now c.as_slice-rules.result.now c.in_ok-place-3.field-0 c.in-Some-3.place
    c.number_at-in-Some-3.result (below_labels c.args.grammar.now c.as_slice-rules.result.now c.first_taking_rule.result
    (below_taking c.args.grammar.now c.in_ok-place-2.field-0
    (below_recursion c.args.grammar.now c.as_slice-rules.result.now c.first_empty_rule.result
    (below_empty c.args.grammar.now c.in_ok-place.field-0 c.requires.early c.in_default.is c.in_ok-place.ensures) (search rules)
    c.in_default-first_empty_rule.is c.first_empty_rule.ensures) c.in_default-2.is c.in_ok-place-2.ensures) (search rules) c.in_default-first_taking_rule.is
    c.first_taking_rule.ensures) (search rules) c.in-Some-3.is c.number_at-in-Some-3.ensures c.in_ok-place-3.ensures

pub returns-then-not-has_start-clause-first : goal.returns-then-not-has_start-clause-first
returns-then-not-has_start-clause-first c =
    first_start c.args.grammar.now (none_unfit c.args.grammar.now c.as_slice-rules.result.now c.in_ok-place-3.field-0
    (below_labels c.args.grammar.now c.as_slice-rules.result.now c.first_taking_rule.result
    (below_taking c.args.grammar.now c.in_ok-place-2.field-0
    (below_recursion c.args.grammar.now c.as_slice-rules.result.now c.first_empty_rule.result
    (below_empty c.args.grammar.now c.in_ok-place.field-0 c.requires.early c.in_default.is c.in_ok-place.ensures) (search rules)
    c.in_default-first_empty_rule.is c.first_empty_rule.ensures) c.in_default-2.is c.in_ok-place-2.ensures) (search rules) c.in_default-first_taking_rule.is
    c.first_taking_rule.ensures) (search rules) c.in_default-3.is c.in_ok-place-3.ensures)
    (start_is c.args.grammar.now c.as_slice-rules.result.now c.has_start.result _ (search rules) c.has_start.ensures c.if-not-has_start.true)

pub returns-clause-none : goal.returns-clause-none
returns-clause-none c = none_left c.args.grammar.now
    (none_unfit c.args.grammar.now c.as_slice-rules.result.now c.in_ok-place-3.field-0
    (below_labels c.args.grammar.now c.as_slice-rules.result.now c.first_taking_rule.result
    (below_taking c.args.grammar.now c.in_ok-place-2.field-0
    (below_recursion c.args.grammar.now c.as_slice-rules.result.now c.first_empty_rule.result
    (below_empty c.args.grammar.now c.in_ok-place.field-0 c.requires.early c.in_default.is c.in_ok-place.ensures) (search rules)
    c.in_default-first_empty_rule.is c.first_empty_rule.ensures) c.in_default-2.is c.in_ok-place-2.ensures) (search rules) c.in_default-first_taking_rule.is
    c.first_taking_rule.ensures) (search rules) c.in_default-3.is c.in_ok-place-3.ensures)
    (start_is c.args.grammar.now c.as_slice-rules.result.now c.has_start.result _ (search rules) c.has_start.ensures c.if-not-has_start.false)

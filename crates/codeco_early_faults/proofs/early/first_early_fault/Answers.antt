use Rattle.std.proofs.Common.{subst, sym, ◌∙◌}
use Rattle.codeco_early_faults.specs.Early.{is_too_large_place, is_undeclared_place, FindsFirst}
use Rattle.codeco_early_faults.proofs.EarlySame.{first_large, first_undeclared, first_double, none_early, few_rules}
use Rattle.codeco_early_faults.proofs.early.first_early_fault.Goals as goal

pub returns-in-Some-clause-first : goal.returns-in-Some-clause-first
returns-in-Some-clause-first c =
    first_large c.args.items.now c.requires c.in-Some.place (subst (FindsFirst (is_too_large_place c.args.items.now)) c.in-Some.is c.in_ok-place.ensures)

pub first_undeclared_rule-requires : goal.first_undeclared_rule-requires
first_undeclared_rule-requires c =
    few_rules c.args.items.now (subst (FindsFirst (is_too_large_place c.args.items.now)) c.in_default.is c.in_ok-place.ensures)

pub returns-in-Some-2-clause-first : goal.returns-in-Some-2-clause-first
returns-in-Some-2-clause-first c =
    first_undeclared c.args.items.now c.requires
    (subst (FindsFirst (is_too_large_place c.args.items.now)) c.in_default.is c.in_ok-place.ensures)
    c.in-Some-2.rule (subst (FindsFirst (is_undeclared_place c.args.items.now)) c.in-Some-2.is c.in_ok-rule.ensures)

pub returns-then-branch-clause-first : goal.returns-then-branch-clause-first
returns-then-branch-clause-first c =
    first_double c.args.items.now c.requires
    (subst (FindsFirst (is_too_large_place c.args.items.now)) c.in_default.is c.in_ok-place.ensures)
    (subst (FindsFirst (is_undeclared_place c.args.items.now)) c.in_default-2.is c.in_ok-rule.ensures)
    (sym c.in_ok-has_double_declaration.ensures ∙ c.if-branch.true)

pub returns-clause-none : goal.returns-clause-none
returns-clause-none c =
    none_early c.args.items.now c.requires
    (subst (FindsFirst (is_too_large_place c.args.items.now)) c.in_default.is c.in_ok-place.ensures)
    (subst (FindsFirst (is_undeclared_place c.args.items.now)) c.in_default-2.is c.in_ok-rule.ensures)
    (sym c.in_ok-has_double_declaration.ensures ∙ c.if-branch.false)

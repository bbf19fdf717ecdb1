use Rattle.std.proofs.Common.{subst, sym, rules}
use Rattle.codeco_late_faults.specs.Steps.{HasFollowers}
use Rattle.codeco_late_faults.proofs.FaultSteps.{looping}
use Rattle.codeco_late_faults.proofs.first.first_recursion.Goals as goal

pub returns : goal.returns
returns c =
    looping c.args.grammar.now c.as_slice-rules.result.now c.as_slice.result.now c.first_recursive_rule.result (search rules)
    (subst (λ t. HasFollowers c.as_slice-rules.result.now t) (sym c.as_slice.ensures.value) c.in_ok-table.ensures.followers) c.first_recursive_rule.ensures

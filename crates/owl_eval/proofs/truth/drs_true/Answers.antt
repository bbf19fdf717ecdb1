use Rattle.std.proofs.Common.{◌≡◌, IfOk, subst}
use Rattle.logic_terms.specs.Shown.{structure_of}
use Rattle.logic_terms.specs.Truth.{is_true}
use Rattle.logic_terms.proofs.Extensions.{is_true-Decides}
use Rattle.owl_eval.specs.Assigned.{assigned, nothing_given}
use Rattle.owl_eval.proofs.Assignments.{ok_decides, ok_closed}
use Rattle.owl_eval.proofs.truth.drs_true.Goals as goal
use Rattle.owl_eval.proofs.truth.drs_true.Goals.{After-structure_true}

-- nothing is given at the start
at_start : (c : After-structure_true) → IfOk c.structure_true.result (λ answer. answer ≡ is_true c.args.interp.now (structure_of c.args.drs.now) nothing_given)
at_start c =
    subst (λ es. IfOk c.structure_true.result (λ answer. answer ≡ is_true c.args.interp.now (structure_of c.args.drs.now) (assigned es)))
    c.new-given.ensures.items c.structure_true.ensures.truth

pub returns-clause-reading : goal.returns-clause-reading
returns-clause-reading c =
    let i = c.args.interp.now in
    let k = structure_of c.args.drs.now in
    ok_decides c.structure_true.result (is_true i k nothing_given) _ (at_start (goal.at.returns-clause-reading c).After-structure_true)
    (is_true-Decides i k nothing_given)

pub returns-clause-closed : goal.returns-clause-closed
returns-clause-closed c =
    ok_closed c.structure_true.result c.args.interp.now (structure_of c.args.drs.now) nothing_given
    (at_start (goal.at.returns-clause-closed c).After-structure_true)

use Rattle.std.proofs.Common.{IfOk, subst}
use Rattle.logic_terms.specs.Shown.{claims_of}
use Rattle.reasoner.specs.Verdicts.{IfInconsistent, HaveNoModel}
use Rattle.reasoner.proofs.judging.tried_verdict.Goals as goal

pub returns-in-Err-clause-impossible : goal.returns-in-Err-clause-impossible
returns-in-Err-clause-impossible c =
    subst (λ axioms. IfOk c.proposed_verdict.result (λ v. IfInconsistent v (λ _. HaveNoModel (claims_of axioms)))) c.in-Err.ensures.refuses.1
    c.proposed_verdict.ensures.impossible

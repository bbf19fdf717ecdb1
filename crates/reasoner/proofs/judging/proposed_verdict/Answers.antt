use Rattle.std.proofs.Common.{subst, IfSome}
use Rattle.logic_terms.specs.Known.{theory_of}
use Rattle.closure_check.specs.NoModel.{HasNoModel}
use Rattle.reasoner.proofs.judging.proposed_verdict.Goals as goal

pub returns-in-Some-clause-impossible : goal.returns-in-Some-clause-impossible
returns-in-Some-clause-impossible c i model =
    let k = theory_of c.in_ok-knowledge.knowledge in
    let none = subst (λ o. IfSome o (λ _. HasNoModel k)) c.in-Some.is c.in_ok-tree-in-Clash.ensures.no_model in
    none i model.0 ((c.in_ok-knowledge.ensures.models i).1 model.1)

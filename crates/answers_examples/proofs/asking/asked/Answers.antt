use Rattle.std.proofs.Common.{ap}
use Rattle.logic_terms.specs.Shown.{claim_of, claims_of, concept_of}
use Rattle.owl_eval.specs.Checked.{kept_claims}
use Rattle.answers_examples.proofs.FirstLemmas.{over_all, plain_all}
use Rattle.answers_examples.proofs.asking.asked.Goals as goal

pub ask-requires-clause-over : goal.ask-requires-clause-over
ask-requires-clause-over c =
    over_all (claims_of c.args.question.now) (kept_claims c.args.kept.now) (claims_of c.axioms.result.now) (claim_of c.get.result.now)
    (concept_of c.in-Member.class) c.in-Member.field-1
    c.get.ensures (ap claim_of c.in-Member.is) c.axioms.ensures.part c.args.names.now (c.are_fit.ensures.over c.if-not-are_fit.false)
    (c.are_fit-2.ensures.over c.if-not-are_fit-2.false)

pub ask-requires-clause-plain : goal.ask-requires-clause-plain
ask-requires-clause-plain c =
    plain_all (claims_of c.args.question.now) (kept_claims c.args.kept.now) (claims_of c.axioms.result.now) (claim_of c.get.result.now)
    (concept_of c.in-Member.class) c.in-Member.field-1
    c.get.ensures (ap claim_of c.in-Member.is) c.axioms.ensures.part (c.are_fit.ensures.plain c.if-not-are_fit.false)
    (c.are_fit-2.ensures.plain c.if-not-are_fit-2.false)

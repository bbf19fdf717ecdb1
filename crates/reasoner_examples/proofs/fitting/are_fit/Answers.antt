use Rattle.std.proofs.Common.{sym, ◌∙◌, arith}
use Rattle.logic_terms.specs.Shown.{claim_of, claims_of}
use Rattle.logic_terms.proofs.Places.{each_more}
use Rattle.reasoner_examples.specs.Fit.{fits}
use Rattle.reasoner_examples.proofs.FitLemmas.{all_over, all_plain}
use Rattle.reasoner_examples.proofs.fitting.are_fit.Goals as goal

pub loop-place-preserved : goal.loop-place-preserved
loop-place-preserved c =
    each_more (fits c.args.names.now) (claims_of c.args.axioms.now) c.loop-place.place (claim_of c.get.result.now) c.get.ensures c.loop-place.invariant
    (sym c.fits.ensures ∙ c.if-not-fits.false)

pub returns-clause-over : goal.returns-clause-over
returns-clause-over c fit = all_over c.args.names.now (claims_of c.args.axioms.now) c.loop-place.place (omega arith) c.loop-place.invariant

pub returns-clause-plain : goal.returns-clause-plain
returns-clause-plain c fit = all_plain c.args.names.now (claims_of c.args.axioms.now) c.loop-place.place (omega arith) c.loop-place.invariant

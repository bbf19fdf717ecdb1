use Rattle.std.proofs.Common.{sym, ◌∙◌}
use Rattle.logic_terms.specs.Shown.{claim_of, claims_of}
use Rattle.logic_terms.specs.Meaning.{holds}
use Rattle.logic_terms.proofs.Places.{each_more, each_fails}
use Rattle.owl_eval.proofs.beside.all_true_beside.Goals as goal

pub returns-then-not-is_true_beside : goal.returns-then-not-is_true_beside
returns-then-not-is_true_beside c =
    sym (each_fails (holds c.args.interp.now) (claims_of c.args.axioms.now) c.loop-place.place (claim_of c.get-stated.result.now) c.get-stated.ensures
    (sym c.is_true_beside.ensures ∙ c.if-not-is_true_beside.true))

pub loop-place-preserved : goal.loop-place-preserved
loop-place-preserved c =
    each_more (holds c.args.interp.now) (claims_of c.args.axioms.now) c.loop-place.place (claim_of c.get-stated.result.now) c.get-stated.ensures
    c.loop-place.invariant (sym c.is_true_beside.ensures ∙ c.if-not-is_true_beside.false)

use Rattle.std.proofs.Common.{◌∙◌}
use Rattle.logic_terms.specs.Shown.{claim_of, claims_of}
use Rattle.absorb.specs.Found.{found}
use Rattle.absorb.proofs.PlaceLemmas.{sorted_more}
use Rattle.absorb.proofs.sorting.gather.Goals as goal

pub loop-place-preserved : goal.loop-place-preserved
loop-place-preserved c =
    c.in_ok-sort.ensures
    ∙ sorted_more (found c.loop-place.pieces) (claims_of c.args.axioms.now) c.loop-place.place (claim_of c.get.result.now) c.get.ensures c.loop-place.invariant

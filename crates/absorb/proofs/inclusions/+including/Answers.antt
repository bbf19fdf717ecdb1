use Rattle.std.proofs.Common.{◌∙◌}
use Rattle.logic_terms.specs.Shown.{concept_of, concepts_of}
use Rattle.absorb.specs.Found.{found}
use Rattle.absorb.proofs.PlaceLemmas.{inclusions_more}
use Rattle.absorb.proofs.inclusions.+including.Goals as goal

pub include_each-loop-place-preserved : goal.include_each-loop-place-preserved
include_each-loop-place-preserved t c =
    c.in_ok-include.ensures
    ∙ inclusions_more (found c.args.pieces.now) (found c.loop-place.pieces) (concepts_of c.args.members.now) c.loop-place.place (concept_of c.get.result.now)
    (concept_of c.args.above.now) c.get.ensures.item c.loop-place.invariant

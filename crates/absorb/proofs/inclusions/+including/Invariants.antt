use Rattle.std.proofs.Common.{◌≡◌, take}
use Rattle.logic_terms.specs.Shown.{concept_of, concepts_of}
use Rattle.logic_terms.specs.Concept.{concepts_from}
use Rattle.absorb.specs.Pieces.{inclusions}
use Rattle.absorb.specs.Sorted.{with_pieces}
use Rattle.absorb.specs.Found.{found}
use Rattle.absorb.proofs.inclusions.+including.Given as goal

abbrev pub invariant-include_each-loop-place : goal.invariant-include_each-loop-place
invariant-include_each-loop-place l = found l.pieces
    ≡ with_pieces (found l.fn.pieces) (inclusions (concepts_from (take l.place (concepts_of l.members))) (concept_of l.above))

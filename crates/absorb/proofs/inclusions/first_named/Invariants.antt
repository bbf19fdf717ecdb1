use Rattle.std.proofs.Common.{◌≡◌, take, None}
use Rattle.logic_terms.specs.Shown.{concepts_of}
use Rattle.logic_terms.specs.Concept.{concepts_from}
use Rattle.absorb.specs.Pieces.{first_word}
use Rattle.absorb.proofs.inclusions.first_named.Given as goal

abbrev pub invariant-loop-place : goal.invariant-loop-place
invariant-loop-place l = first_word (concepts_from (take l.place (concepts_of l.members))) ≡ None

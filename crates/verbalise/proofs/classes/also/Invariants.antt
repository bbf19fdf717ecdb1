use Rattle.std.proofs.Common.{◌≡◌, map, drop}
use Rattle.logic_terms.specs.Concept.{concepts_from}
use Rattle.logic_terms.specs.Shown.{concept_of}
use Rattle.verbalise.specs.Phrases.{◌⋅◌}
use Rattle.verbalise.specs.Said.{also}
use Rattle.verbalise.proofs.classes.also.Given as goal

-- what is said so far and what is left give the whole
abbrev pub invariant-loop-class : goal.invariant-loop-class
invariant-loop-class l =
    l.said ⋅ also l.words.live (concepts_from (map concept_of (drop l.class-index l.members)))
    ≡ also l.words.live (concepts_from (map concept_of l.members))

use Rattle.std.proofs.Common.{◌≡◌, length}
use Rattle.logic_terms.specs.Shown.{concepts_of}
use Rattle.logic_terms.specs.Concept.{concepts_from}
use Rattle.logic_terms.specs.Same.{same_concepts}
use Rattle.logic_terms.proofs.SameLemmas.{rest_same}
use Rattle.logic_terms.proofs.expressions.+comparing.Given as goal

abbrev pub invariant-Classes::are_same-loop-place : goal.invariant-Classes::are_same-loop-place
invariant-Classes::are_same-loop-place l = record {
  long : length (concepts_of l.self) ≡ length (concepts_of l.other);
  left_decides : same_concepts (concepts_from (concepts_of l.self)) (concepts_from (concepts_of l.other))
      ≡ rest_same (concepts_of l.self) (concepts_of l.other) l.place;
}

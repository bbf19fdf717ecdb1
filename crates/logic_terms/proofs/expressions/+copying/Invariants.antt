use Rattle.std.proofs.Common.{◌≡◌, take, map}
use Rattle.logic_terms.specs.Shown.{concept_of, concepts_of}
use Rattle.logic_terms.proofs.expressions.+copying.Given as goal

abbrev pub invariant-Classes::copy-loop-class : goal.invariant-Classes::copy-loop-class
invariant-Classes::copy-loop-class l = concepts_of l.copied ≡ map concept_of (take l.class-index l.class-items)

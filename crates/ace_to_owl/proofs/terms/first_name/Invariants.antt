use Rattle.std.proofs.Common.{◌≡◌, drop}
use Rattle.ace_to_owl.specs.Terms.{first_name}
use Rattle.ace_to_owl.proofs.terms.first_name.Given as goal

abbrev pub invariant-loop-term : goal.invariant-loop-term
invariant-loop-term l = first_name (drop l.term-index l.terms) ≡ first_name l.terms

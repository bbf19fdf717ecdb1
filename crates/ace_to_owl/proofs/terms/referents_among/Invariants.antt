use Rattle.std.proofs.Common.{◌≡◌, ◌++◌, drop}
use Rattle.ace_to_owl.specs.Terms.{referents_among}
use Rattle.ace_to_owl.proofs.terms.referents_among.Given as goal

abbrev pub invariant-loop-term : goal.invariant-loop-term
invariant-loop-term l = l.own ++ referents_among l.referents (drop l.term-index l.terms) ≡ referents_among l.referents l.terms

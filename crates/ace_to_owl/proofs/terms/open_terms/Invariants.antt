use Rattle.std.proofs.Common.{◌≡◌, take}
use Rattle.std.specs.List.{filter}
use Rattle.ace_to_owl.specs.Terms.{is_open}
use Rattle.ace_to_owl.proofs.terms.open_terms.Given as goal

abbrev pub invariant-loop-term : goal.invariant-loop-term
invariant-loop-term l = l.opened ≡ filter (is_open l.root) (take l.term-index l.terms)

use Rattle.std.proofs.Common.{◌≡◌, true, take}
use Rattle.std.specs.List.{list_all}
use Rattle.logic_terms.specs.Shown.{claims_of}
use Rattle.reasoner_examples.specs.Fit.{fits}
use Rattle.reasoner_examples.proofs.fitting.are_fit.Given as goal

abbrev pub invariant-loop-place : goal.invariant-loop-place
invariant-loop-place l = list_all (fits l.names) (take l.place (claims_of l.axioms)) ≡ true

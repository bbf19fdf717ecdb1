use Rattle.std.proofs.Common.{◌≡◌, true, take}
use Rattle.logic_terms.specs.Shown.{claims_of}
use Rattle.logic_terms.specs.Meaning.{all_hold}
use Rattle.owl_eval.proofs.beside.all_true_beside.Given as goal

abbrev pub invariant-loop-place : goal.invariant-loop-place
invariant-loop-place l = all_hold l.interp (take l.place (claims_of l.axioms)) ≡ true

use Rattle.std.proofs.Common.{◌≡◌, take}
use Rattle.owl_eval.specs.Assigned.{assigned}
use Rattle.owl_eval.proofs.truth.last_given.Given as goal

abbrev pub invariant-loop-entry : goal.invariant-loop-entry
invariant-loop-entry l = l.element ≡ assigned (take l.entry-index l.given) l.referent

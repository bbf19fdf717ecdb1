use Rattle.std.proofs.Common.{◌≡◌, drop}
use Rattle.derivation_trees.specs.Starts.{may_start}
use Rattle.derivation_trees.proofs.starts.may_start.Given as goal

abbrev pub invariant-loop-element : goal.invariant-loop-element
invariant-loop-element l = may_start l.setting l.place (drop l.element-index l.body) ≡ may_start l.setting l.place l.body

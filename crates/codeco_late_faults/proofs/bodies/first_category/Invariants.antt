use Rattle.std.proofs.Common.{◌≡◌, drop}
use Rattle.codeco_checked.specs.Faults.{first_category}
use Rattle.codeco_late_faults.proofs.bodies.first_category.Given as goal

abbrev pub invariant-loop-element : goal.invariant-loop-element
invariant-loop-element l = first_category (drop l.element-index l.body) ≡ first_category l.body

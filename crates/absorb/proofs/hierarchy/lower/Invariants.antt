use Rattle.std.proofs.Common.{take, Contains}
use Rattle.std.specs.Prelude.{◌↔◌}
use Rattle.logic_terms.specs.declared.expressions.Role.{Role}
use Rattle.absorb.specs.Hierarchy.{IsAtOrBelow}
use Rattle.absorb.proofs.hierarchy.lower.Given as goal

abbrev pub invariant-loop-pair : goal.invariant-loop-pair
invariant-loop-pair l = (r : Role) → Contains l.made.items r ↔ IsAtOrBelow (take l.pair-index l.hierarchy) r l.role

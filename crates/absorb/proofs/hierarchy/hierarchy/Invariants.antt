use Rattle.std.proofs.Common.{take}
use Rattle.std.specs.Prelude.{◌↔◌}
use Rattle.logic_terms.specs.declared.expressions.Role.{Role}
use Rattle.absorb.specs.Hierarchy.{IsAtOrBelow, AreDistinct}
use Rattle.absorb.specs.Absorbed.{IsPutBelow}
use Rattle.absorb.specs.Closure.{Reaches}
use Rattle.absorb.proofs.hierarchy.hierarchy.Given as goal

abbrev pub invariant-loop-inclusion : goal.invariant-loop-inclusion
invariant-loop-inclusion l = record {
  closed : (r s : Role) → IsAtOrBelow l.made.items r s ↔ Reaches (IsPutBelow (take l.inclusion-index l.inclusions)) r s;
  distinct : AreDistinct l.made.items;
}

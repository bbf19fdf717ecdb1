use Rattle.std.proofs.Common.{◌≡◌, take, Contains}
use Rattle.std.specs.Prelude.{◌↔◌, ◌⊎◌}
use Rattle.logic_terms.specs.declared.expressions.Role.{Role}
use Rattle.absorb.specs.Hierarchy.{IsAtOrBelow, AreDistinct}
use Rattle.absorb.proofs.hierarchy.put_below.Given as goal

abbrev pub invariant-loop-first : goal.invariant-loop-first
invariant-loop-first l = record {
  closed : (r s : Role) → IsAtOrBelow l.hierarchy.items r s ↔
      (IsAtOrBelow l.fn.hierarchy.items r s ⊎ (Contains (take l.first-index l.first-items) r × Contains l.upper.items s));
  distinct : AreDistinct l.hierarchy.items;
}

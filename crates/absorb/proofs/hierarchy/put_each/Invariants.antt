use Rattle.std.proofs.Common.{◌≡◌, take, Contains}
use Rattle.std.specs.Prelude.{◌↔◌, ◌⊎◌}
use Rattle.logic_terms.specs.declared.expressions.Role.{Role}
use Rattle.absorb.specs.Hierarchy.{IsAtOrBelow, AreDistinct}
use Rattle.absorb.proofs.hierarchy.put_each.Given as goal

abbrev pub invariant-loop-role : goal.invariant-loop-role
invariant-loop-role l = record {
  closed : (r s : Role) → IsAtOrBelow l.hierarchy.items r s ↔ (IsAtOrBelow l.fn.hierarchy.items r s ⊎ ((l.below ≡ r) × Contains (take l.role-index l.above) s));
  distinct : AreDistinct l.hierarchy.items;
}

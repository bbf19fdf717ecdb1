use Rattle.std.proofs.Common.{◌≡◌, All, take, map}
use Rattle.absorb.specs.Absorbed.{Represents}
use Rattle.absorb.proofs.representatives.representatives.Given as goal

abbrev pub invariant-loop-equality : goal.invariant-loop-equality
invariant-loop-equality l = record {
  given : map (λ e. e.0) l.made.items ≡ l.names;
  least : All (λ e. Represents (take l.equality-index l.equalities) e.0 e.1) l.made.items;
}

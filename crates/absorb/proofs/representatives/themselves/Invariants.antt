use Rattle.std.proofs.Common.{◌≡◌, take, map}
use Rattle.absorb.proofs.representatives.themselves.Given as goal

abbrev pub invariant-loop-name : goal.invariant-loop-name
invariant-loop-name l = l.made.items ≡ map (λ n. (n, n)) (take l.name-index l.name-items)

use Rattle.std.proofs.Common.{◌≡◌, ℕ, ◌+◌, ◌*◌, [], ◌∷◌, ◌++◌, take, drop, map}
use Rattle.derivations.specs.Enumeration as enumeration
use Rattle.derivations.proofs.choices.push_longer.Given as goal

abbrev pub invariant-loop-value : goal.invariant-loop-value
invariant-loop-value l =
    l.out ≡ l.initial.out ++ enumeration.lengthened_one (l.variable, take l.value-index l.values) l.bound

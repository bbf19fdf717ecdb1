use Rattle.std.proofs.Common.{◌≡◌, ℕ, ◌+◌, ◌*◌, [], ◌∷◌, ◌++◌, take, drop, map}
use Rattle.derivations.specs.Enumeration as enumeration
use Rattle.derivations.proofs.values.add_given.Given as goal

abbrev pub invariant-loop-other : goal.invariant-loop-other
invariant-loop-other l =
    enumeration.with_given l.values (drop l.other-index l.pairs) l.feature ≡ enumeration.with_given l.initial.values l.pairs l.feature

use Rattle.std.proofs.Common.{◌≡◌, ℕ, ◌+◌, ◌*◌, [], ◌∷◌, ◌++◌, take, drop, map}
use Rattle.derivations.specs.Enumeration as enumeration
use Rattle.derivations.proofs.values.add_all_words.Given as goal

abbrev pub invariant-loop-readings : goal.invariant-loop-readings
invariant-loop-readings l =
    enumeration.with_all_words l.values (drop l.readings-index l.all) ≡ enumeration.with_all_words l.initial.values l.all

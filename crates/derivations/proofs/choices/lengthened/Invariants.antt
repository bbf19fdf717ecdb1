use Rattle.std.proofs.Common.{◌≡◌, ℕ, ◌+◌, ◌*◌, [], ◌∷◌, ◌++◌, take, drop, map}
use Rattle.std.specs.List.{flat_map, range_with_len}
use Rattle.derivations.specs.Choices.{choice_of}
use Rattle.derivations.specs.Enumeration as enumeration
use Rattle.derivations.proofs.choices.lengthened.Given as goal

abbrev pub invariant-loop-bound : goal.invariant-loop-bound
invariant-loop-bound l =
    l.out ≡ flat_map (enumeration.lengthened_one (choice_of l.choice)) (take l.bound-index l.done)

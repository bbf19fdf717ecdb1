use Rattle.std.proofs.Common.{◌≡◌, ◌+◌, ◌*◌, [], ◌∷◌, ◌++◌, drop, map}
use Rattle.derivations.specs.Enumeration as enumeration
use Rattle.derivations.specs.Choices.{choice_of}
use Rattle.derivations.proofs.choices.push_own.Given as goal

abbrev pub invariant-loop-feature : goal.invariant-loop-feature
invariant-loop-feature l =
    map choice_of l.out ++ enumeration.own_choices l.setting l.number (drop l.feature-index l.features)
    ≡ map choice_of l.initial.out ++ enumeration.own_choices l.setting 16 l.features

use Rattle.std.proofs.Common.{◌≡◌, ℕ, ◌+◌, ◌*◌, [], ◌∷◌, ◌++◌, take, drop, map}
use Rattle.derivations.specs.Enumeration as enumeration
use Rattle.derivations.specs.Choices.{choice_of}
use Rattle.derivations.proofs.choices.chosen.Given as goal

abbrev pub invariant-loop-choice : goal.invariant-loop-choice
invariant-loop-choice l =
    enumeration.chosen (map choice_of (drop l.choice-index l.choices)) l.made ≡ enumeration.chosen (map choice_of l.choices) l.fn.done

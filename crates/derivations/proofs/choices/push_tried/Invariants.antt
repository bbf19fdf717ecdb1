use Rattle.std.proofs.Common.{◌≡◌, ℕ, ◌+◌, ◌*◌, [], ◌∷◌, ◌++◌, take, drop, map}
use Rattle.derivations.specs.Enumeration as enumeration
use Rattle.derivations.specs.Choices.{choice_of}
use Rattle.derivations.proofs.choices.push_tried.Given as goal

abbrev pub invariant-loop-number : goal.invariant-loop-number
invariant-loop-number l =
    map choice_of l.out ≡ map choice_of l.initial.out ++ map (enumeration.choice_among l.setting l.rule l.terms l.wanted) (take l.number-index l.written)

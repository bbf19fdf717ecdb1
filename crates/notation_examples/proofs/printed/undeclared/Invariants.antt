use Rattle.std.proofs.Common.{◌≡◌, map, take}
use Rattle.notation_examples.specs.Smallest.{undeclared_feature}
use Rattle.notation_examples.proofs.printed.undeclared.Given as goal

abbrev pub invariant-loop-name : goal.invariant-loop-name
invariant-loop-name l = l.made ≡ map (λ name. undeclared_feature name.now) (take l.name-index l.names)

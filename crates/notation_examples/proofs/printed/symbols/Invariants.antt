use Rattle.std.proofs.Common.{◌≡◌, map, take}
use Rattle.notation_examples.proofs.printed.symbols.Given as goal

abbrev pub invariant-loop-text : goal.invariant-loop-text
invariant-loop-text l = l.made ≡ map (λ text. text.now) (take l.text-index l.texts)

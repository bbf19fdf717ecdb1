use Rattle.std.proofs.Common.{◌≡◌, ◌++◌, drop, map, filter}
use Rattle.derivations.specs.Entries.{shown, texts_of, functions_in}
use Rattle.chart.specs.Offers.{some_follows}
use Rattle.chart.proofs.offers.add_terminals.Given as goal

abbrev pub invariant-loop-text : goal.invariant-loop-text
invariant-loop-text l =
    map shown l.found.items ++ functions_in (filter (λ text. some_follows text l.terminals l.told) (texts_of (drop l.text-index l.texts)))
    ≡ map shown l.initial.found.items ++ functions_in (filter (λ text. some_follows text l.terminals l.told) (texts_of l.texts))

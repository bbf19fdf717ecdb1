use Rattle.std.proofs.Common.{◌≡◌, ◌++◌, drop, map}
use Rattle.derivations.specs.Entries.{shown}
use Rattle.chart.specs.Offers.{chosen}
use Rattle.chart.proofs.offers.add_chosen.Given as goal

abbrev pub invariant-loop-number : goal.invariant-loop-number
invariant-loop-number l =
    map shown l.found.items ++ chosen (drop l.number (map shown l.forms)) (drop l.number l.told)
    ≡ map shown l.initial.found.items ++ chosen (map shown l.forms) l.told

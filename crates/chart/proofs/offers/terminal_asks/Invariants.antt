use Rattle.std.proofs.Common.{◌≡◌, ◌++◌, drop}
use Rattle.chart.specs.Offers as offers
use Rattle.chart.proofs.offers.terminal_asks.Given as goal

abbrev pub invariant-loop-number : goal.invariant-loop-number
invariant-loop-number l = l.asks ++ offers.terminal_asks l.number (drop l.number l.terminals) ≡ offers.terminal_asks 0 l.terminals

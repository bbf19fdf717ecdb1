use Rattle.std.proofs.Common.{◌≡◌, drop}
use Rattle.chart.specs.Offers as offers
use Rattle.chart.proofs.offers.some_follows.Given as goal

abbrev pub invariant-loop-number : goal.invariant-loop-number
invariant-loop-number l = offers.some_follows l.text (drop l.number l.terminals) (drop l.number l.told) ≡ offers.some_follows l.text l.terminals l.told

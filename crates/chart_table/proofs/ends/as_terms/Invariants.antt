use Rattle.std.proofs.Common.{◌≡◌, take}
use Rattle.chart_table.specs.Ends.{as_terms}
use Rattle.chart_table.proofs.ends.as_terms.Given as goal

abbrev pub invariant-loop-number : goal.invariant-loop-number
invariant-loop-number l = l.terms ≡ as_terms (take l.number-index l.numbers)

use Rattle.std.proofs.Common.{◌≡◌, map}
use Rattle.std.specs.Prelude.{◌==◌}
use Rattle.std.specs.List.{list_any, range_with_len}
use Rattle.chart_table.proofs.sentences.follows.Given as goal

abbrev pub invariant-loop-number : goal.invariant-loop-number
invariant-loop-number l = l.follows ≡ map (λ j. list_any (λ e. e.ask == j) l.cuts) (range_with_len 0 l.number)

use Rattle.std.proofs.Common.{◌≡◌, map}
use Rattle.std.specs.List.{range_with_len}
use Rattle.codeco_terms.specs.declared.values.Value.TheVariants.{Pos}
use Rattle.chart_table.proofs.choices.position_values.Given as goal

abbrev pub invariant-loop-place : goal.invariant-loop-place
invariant-loop-place l = l.values ≡ map Pos (range_with_len 0 l.place)

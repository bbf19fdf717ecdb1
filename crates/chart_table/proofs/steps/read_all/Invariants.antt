use Rattle.std.proofs.Common.{◌≡◌, take}
use Rattle.chart_table.specs.Steps.{read_all}
use Rattle.chart_table.proofs.steps.read_all.Given as goal

abbrev pub invariant-loop-reading : goal.invariant-loop-reading
invariant-loop-reading l = l.out ≡ read_all l.category l.bound (take l.reading-index l.readings)

use Rattle.std.proofs.Common.{arith}
use Rattle.std.proofs.lemmas.Grind.{common_steps}
use Rattle.std.proofs.lemmas.List.Elements.{filter_map-append}
use Rattle.chart_table.proofs.branches.values_at.Goals as goal

pub loop-other-preserved : goal.loop-other-preserved
loop-other-preserved c = grind (arith, common_steps, filter_map-append)

use Rattle.std.proofs.Common.{arith}
use Rattle.std.proofs.lemmas.Grind.{common_steps}
use Rattle.std.proofs.lemmas.List.Elements.{filter_map-append}
use Rattle.chart_table.proofs.branches.known_features.Goals as goal

pub loop-feat-preserved : goal.loop-feat-preserved
loop-feat-preserved c = grind (arith, common_steps, filter_map-append)

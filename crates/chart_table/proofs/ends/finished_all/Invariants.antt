use Rattle.std.proofs.Common.{◌≡◌, take}
use Rattle.chart_table.specs.Ends.{finished_one}
use Rattle.std.specs.List.{flat_map}
use Rattle.chart_table.proofs.ends.finished_all.Given as goal

abbrev pub invariant-loop-bound : goal.invariant-loop-bound
invariant-loop-bound l = l.ends ≡ flat_map (finished_one l.setting l.rule l.before l.state l.plan.variables) (take l.bound-index l.bounds)

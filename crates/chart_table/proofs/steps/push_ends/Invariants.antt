use Rattle.std.proofs.Common.{◌≡◌, take, ◌++◌}
use Rattle.chart_table.specs.Steps.{sub_steps}
use Rattle.chart_table.proofs.steps.push_ends.Given as goal

abbrev pub invariant-loop-end : goal.invariant-loop-end
invariant-loop-end l = l.out ≡ l.fn.out ++ sub_steps l.category l.state (take l.end-index l.ends)

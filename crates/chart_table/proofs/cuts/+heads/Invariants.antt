use Rattle.std.proofs.Common.{◌+◌, ◌*◌, length, take}
use Rattle.std.specs.List.{filter_map}
use Rattle.chart_table.specs.Branches.{bound_term}
use Rattle.chart_table.specs.Cuts.{HasHeads, IsOf}
use Rattle.chart_table.proofs.cuts.+heads.Given as goal

abbrev pub decreases-push_each : goal.decreases-push_each
decreases-push_each l = 3 * length l.later.now + 2

abbrev pub decreases-push_some : goal.decreases-push_some
decreases-push_some l = 3 * length l.later.now + 1

abbrev pub decreases-push_from : goal.decreases-push_from
decreases-push_from l = 3 * length l.feats.now

abbrev pub invariant-push_each-loop-value : goal.invariant-push_each-loop-value
invariant-push_each-loop-value l =
    HasHeads l.trial.setting.now l.trial.rule.now (IsOf l.number (filter_map (bound_term l.bound l.feat.1) (take l.value-index l.value-items))) l.fn.cuts
    l.cuts

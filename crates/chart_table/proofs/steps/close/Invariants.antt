use Rattle.std.proofs.Common.{◌≡◌, drop}
use Rattle.chart_table.specs.Branches.{closing}
use Rattle.chart_table.specs.Choices.{choices}
use Rattle.chart_table.proofs.steps.close.Given as goal

abbrev pub invariant-loop-feat : goal.invariant-loop-feat
invariant-loop-feat l = closing (choices l.setting l.plan.terms l.plan.places l.plan.own) (drop l.feat-index l.feats) l.all
    ≡ closing (choices l.setting l.plan.terms l.plan.places l.plan.own) l.feats l.fn.bounds

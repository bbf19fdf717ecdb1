use Rattle.std.proofs.Common.{◌≡◌, take}
use Rattle.chart.proofs.classes.ground.Given as goal

-- the pairs so far are the values
abbrev pub invariant-loop-feature : goal.invariant-loop-feature
invariant-loop-feature l = l.vals ≡ take l.feature-index l.pairs

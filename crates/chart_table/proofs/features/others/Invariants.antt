use Rattle.std.proofs.Common.{◌≡◌, take, map, filter, not}
use Rattle.codeco_checked.specs.Numbering.{has}
use Rattle.chart_table.proofs.features.others.Given as goal

abbrev pub invariant-loop-feature : goal.invariant-loop-feature
invariant-loop-feature l = l.own ≡ filter (λ f. not (has (map (λ p. p.0) l.feats) f)) (take l.feature-index l.features)

use Rattle.std.proofs.Common.{◌≡◌, drop, map}
use Rattle.codeco_checked.specs.Numbering.{has}
use Rattle.chart_table.proofs.features.writes.Given as goal

abbrev pub invariant-loop-other : goal.invariant-loop-other
invariant-loop-other l =
    has (map (λ p. p.0) (drop l.other-index l.feats)) l.feature ≡ has (map (λ p. p.0) l.feats) l.feature

use Rattle.std.proofs.Common.{◌≡◌, drop}
use Rattle.derivation_trees.specs.Instances.{own_fit}
use Rattle.chart_table.proofs.fits.own_fit.Given as goal

abbrev pub invariant-loop-place : goal.invariant-loop-place
invariant-loop-place l =
    own_fit l.setting (drop l.place l.features) (drop l.place l.values) ≡ own_fit l.setting l.features l.values

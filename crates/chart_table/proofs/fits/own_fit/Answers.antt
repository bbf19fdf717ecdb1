use Rattle.std.proofs.Common.{arith}
use Rattle.derivation_trees.proofs.InstanceLemmas.{own_fit_short}
use Rattle.chart_table.proofs.fits.own_fit.Goals as goal

pub returns-in-None : goal.returns-in-None
returns-in-None c =
    own_fit_short c.args.setting.now c.args.features.now c.args.values.now c.loop-place.place _ (omega arith) c.in-None.ensures.lookup.3 c.loop-place.invariant

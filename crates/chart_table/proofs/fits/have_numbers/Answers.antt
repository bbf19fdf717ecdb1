use Rattle.std.proofs.Common.{arith}
use Rattle.derivation_trees.proofs.InstanceLemmas.{same_numbers_short, same_numbers_end}
use Rattle.chart_table.proofs.fits.have_numbers.Goals as goal

pub returns-in-None : goal.returns-in-None
returns-in-None c =
    same_numbers_short c.args.values.now c.args.numbers.now c.loop-place.place _ (omega arith) c.in-None.ensures.lookup.3 c.loop-place.invariant.1

pub returns : goal.returns
returns c =
    same_numbers_end c.args.values.now c.args.numbers.now c.loop-place.place _ (omega arith) (omega arith) c.loop-place.invariant.0 c.loop-place.invariant.1

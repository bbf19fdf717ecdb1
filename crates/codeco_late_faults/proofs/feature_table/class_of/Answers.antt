use Rattle.std.proofs.Common.{arith}
use Rattle.codeco_late_faults.proofs.TableLemmas.{holds_at}
use Rattle.codeco_late_faults.proofs.feature_table.class_of.Goals as goal

pub same_values-requires-clause-other_holds : goal.same_values-requires-clause-other_holds
same_values-requires-clause-other_holds c =
    holds_at c.args.features.now c.args.sets.now c.loop-place.place c.index-features-place.result c.index-sets-place.result c.requires.sets (omega arith)
    (omega arith) c.index-features-place.is c.index-sets-place.is

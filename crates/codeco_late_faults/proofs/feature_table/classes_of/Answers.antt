use Rattle.std.proofs.Common.{arith}
use Rattle.codeco_late_faults.proofs.TableLemmas.{holds_at}
use Rattle.codeco_late_faults.proofs.feature_table.classes_of.Goals as goal

pub class_of-requires-clause-holds : goal.class_of-requires-clause-holds
class_of-requires-clause-holds c =
    holds_at c.args.features.now c.args.sets.now c.loop-place.place c.index-features-place.result c.index-sets-place.result c.requires.sets (omega arith)
    (omega arith) c.index-features-place.is c.index-sets-place.is

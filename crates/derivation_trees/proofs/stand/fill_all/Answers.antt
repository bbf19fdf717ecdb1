use Rattle.std.proofs.Common.{arith}
use Rattle.std.proofs.lemmas.Grind.{common_steps}
use Rattle.derivation_trees.proofs.OwnLemmas.{own_rest_more}
use Rattle.derivation_trees.proofs.stand.fill_all.Goals as goal

pub loop-feature-preserved : goal.loop-feature-preserved
loop-feature-preserved c = (grind (arith, common_steps), grind (arith, common_steps), grind (arith, common_steps, own_rest_more))

use Rattle.std.proofs.Common.{◌≡◌, refl, ap, ◌∙◌, sym}
use Rattle.std.proofs.lemmas.Result.{IfOk-weaker}
use Rattle.derivation_trees.proofs.StandLemmas.{Begins-take}
use Rattle.derivation_trees.proofs.derive.closed.Goals as goal

pub close-requires : goal.close-requires
close-requires c = Begins-take c.args.begun.now c.args.list c.requires

use Rattle.verbalise.proofs.TruthLemmas.{true_together}
use Rattle.verbalise.proofs.saying.keeps_truth.Goals as goal

pub returns : goal.returns
returns c words tokens claim = true_together c.args.grammar.now words tokens claim c.grammar.ensures.sound

use Rattle.std.proofs.Common.{◌∙◌}
use Rattle.codeco_text.proofs.Fronts.{front_is}
use Rattle.codeco_text.proofs.words.has_front.Goals as goal

pub returns : goal.returns
returns c = c.starts_with.ensures.value ∙ front_is c.args.front.now c.args.text.now

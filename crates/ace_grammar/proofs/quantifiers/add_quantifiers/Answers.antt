use Rattle.ace_grammar.specs.Quantifiers.{quantifiers}
use Rattle.ace_grammar.proofs.quantifiers.add_quantifiers.Goals as goal

pub returns : goal.returns
unfolding quantifiers
returns c = c.add_rules.ensures

use Rattle.ace_grammar.specs.NounPhrases.{noun_phrases}
use Rattle.ace_grammar.proofs.noun_phrases.add_noun_phrases.Goals as goal

pub returns : goal.returns
unfolding noun_phrases
returns c = c.add_rules.ensures

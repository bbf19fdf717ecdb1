use Rattle.ace_grammar.specs.VerbPhrases.{verb_phrases}
use Rattle.ace_grammar.proofs.verb_phrases.add_verb_phrases.Goals as goal

pub returns : goal.returns
unfolding verb_phrases
returns c = c.add_rules.ensures

use Rattle.ace_grammar.specs.Predicates.{predicates}
use Rattle.ace_grammar.proofs.predicates.add_predicates.Goals as goal

pub returns : goal.returns
unfolding predicates
returns c = c.add_rules.ensures

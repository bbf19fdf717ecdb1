use Rattle.ace_grammar.specs.Statements.{statements}
use Rattle.ace_grammar.proofs.statements.add_statements.Goals as goal

pub returns : goal.returns
unfolding statements
returns c = c.add_rules.ensures

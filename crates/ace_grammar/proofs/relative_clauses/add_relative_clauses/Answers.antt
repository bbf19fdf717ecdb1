use Rattle.ace_grammar.specs.RelativeClauses.{relative_clauses}
use Rattle.ace_grammar.proofs.relative_clauses.add_relative_clauses.Goals as goal

pub returns : goal.returns
unfolding relative_clauses
returns c = c.add_rules.ensures

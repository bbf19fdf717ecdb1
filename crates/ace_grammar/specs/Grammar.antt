-- The wiki's own grammar.
use Rattle.std.specs.Prelude.{List, ◌++◌}
use Rattle.codeco_terms.specs.declared.rules.Rule.{Rule}
use Rattle.codeco_terms.specs.GrammarParts.{GrammarParts}
use Rattle.ace_grammar.specs.Names.{declarations, atom_names, terminal_texts, category_names}
use Rattle.ace_grammar.specs.Statements.{statements}
use Rattle.ace_grammar.specs.VerbPhrases.{verb_phrases}
use Rattle.ace_grammar.specs.Predicates.{predicates}
use Rattle.ace_grammar.specs.RelativeClauses.{relative_clauses}
use Rattle.ace_grammar.specs.NounPhrases.{noun_phrases}
use Rattle.ace_grammar.specs.Quantifiers.{quantifiers}
use Rattle.ace_grammar.specs.Questions.{questions}

-- the 81 rules
unfoldable pub all_rules : List Rule
all_rules = statements ++ verb_phrases ++ predicates ++ relative_clauses ++ noun_phrases ++ quantifiers ++ questions

-- the declarations, the names and the rules, in order of number
unfoldable pub ace_grammar : GrammarParts
ace_grammar = record {
  features = declarations;
  atoms = atom_names;
  terminals = terminal_texts;
  categories = category_names;
  rules = all_rules;
}

-- An example: the grammar of the text `text --> [a].` Only a test speaks of it.
use Rattle.std.specs.Prelude.{ℕ, false, List, [], ◌∷◌, map, codes, None}
use Rattle.codeco_terms.specs.declared.elements.Element.TheVariants.{Terminal}
use Rattle.codeco_terms.specs.declared.declarations.Declared.TheVariants.{Undeclared}
use Rattle.codeco_terms.specs.declared.declarations.Feature.{Feature}
use Rattle.codeco_terms.specs.declared.rules.Rule.{Rule}
use Rattle.codeco_terms.specs.GrammarParts.{GrammarParts}
use Rattle.codeco_checked.specs.declared.numbers.TheConstants.{FIRST_PLAIN}
use Rattle.codeco_checked.specs.Numbering.{first_features, first_atoms, first_categories}

abbrev pub undeclared_feature : List ℕ → Feature
undeclared_feature name = record { name = name; declared = Undeclared }

abbrev pub only_rules : List Rule
only_rules = record { label = None; head = record { name = FIRST_PLAIN; feats = [] }; closing = false; body = Terminal 0 ∷ [] } ∷ []

abbrev pub smallest_grammar : GrammarParts
smallest_grammar = record {
  features = map undeclared_feature first_features;
  atoms = first_atoms;
  terminals = codes "a" ∷ [];
  categories = first_categories;
  rules = only_rules;
}

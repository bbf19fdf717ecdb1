-- The parts of a grammar, put together.
use Rattle.std.proofs.Common.{◌≡◌, ℕ, List, ◌++◌, map, ap, ◌∙◌}
use Rattle.codeco_terms.specs.declared.declarations.Feature.{Feature}
use Rattle.codeco_terms.specs.declared.rules.Rule.{Rule}
use Rattle.codeco_terms.specs.GrammarParts.{GrammarParts}
use Rattle.codeco_text.specs.declared.written.WrittenItem.{WrittenItem}
use Rattle.codeco_text.specs.Notation.{kinds}
use Rattle.codeco_numbering.specs.declared.tables.GrammarTables.{GrammarTables}
use Rattle.codeco_numbering.specs.Numbered.{all_features, atoms_of, numbered_feature, numbered_rule, rules_of, numbered_of}
use Rattle.codeco_numbering.specs.Fitting.{rule_tables}
use Rattle.codeco_numbering.proofs.Sound.Features.{feature_names}
use Rattle.codeco_numbering.proofs.Sound.Contents.{terminals_of, categories_of}

abbrev pub tables : (features atoms terminals categories : List (List ℕ)) → GrammarTables
tables features atoms terminals categories = record { features = features; atoms = atoms; terminals = terminals; categories = categories }

-- the tables of a text
abbrev pub text_tables : List WrittenItem → GrammarTables
text_tables items = tables (feature_names (all_features items)) (atoms_of (all_features items)) (terminals_of items) (categories_of items)

pub tables_same : (items : List WrittenItem) (features atoms terminals categories : List (List ℕ)) → features ≡ feature_names (all_features items)
    → atoms ≡ atoms_of (all_features items) → terminals ≡ terminals_of items → categories ≡ categories_of items
    → tables features atoms terminals categories ≡ text_tables items
tables_same items features atoms terminals categories p q r s = λ i. tables (p i) (q i) (r i) (s i)

abbrev pub parts : List Feature → GrammarTables → List Rule → GrammarParts
parts features g rules = record { features = features; atoms = g.atoms; terminals = g.terminals; categories = kinds ++ g.categories; rules = rules }

pub parts_same : (items : List WrittenItem) (features : List Feature) (g : GrammarTables) (rules : List Rule)
    → features ≡ map (numbered_feature (atoms_of (all_features items))) (all_features items) → g ≡ text_tables items
    → rules ≡ map (λ r. numbered_rule (rule_tables g r) r) (rules_of items) → parts features g rules ≡ numbered_of items
parts_same items features g rules p q r =
    let whole : rules ≡ map (λ x. numbered_rule (rule_tables (text_tables items) x) x) (rules_of items) =
    r ∙ ap (λ (t : GrammarTables). map (λ x. numbered_rule (rule_tables t x) x) (rules_of items)) q in
    (λ i. parts (p i) (q i) (whole i))

-- The features of the categories that elements introduce.
use Rattle.std.specs.Prelude.{◌≡◌, ℕ, not, List, [], map, filter}
use Rattle.codeco_terms.specs.declared.elements.Element.{Element}
use Rattle.codeco_terms.specs.declared.elements.Element.TheVariants.{Forward, Strong}
use Rattle.codeco_terms.specs.GrammarParts.{GrammarParts}
use Rattle.codeco_checked.specs.Numbering.{has}
use Rattle.derivation_trees.specs.Instances.{features_of}
use Rattle.chart_table.specs.declared.features.CategoryFeatures.{CategoryFeatures}
use Rattle.chart_table.specs.Branches.{OneOf}

-- the features of the category that the element introduces
abbrev pub element_features : GrammarParts → Element → List ℕ
element_features g (Forward c) = features_of g c.name
element_features g (Strong c) = features_of g c.name
element_features _ _ = []

-- those of the features that the introduction leaves out
abbrev pub own_among : List ℕ → Element → List ℕ
own_among features (Forward c) = filter (λ f. not (has (map (λ p. p.0) c.feats) f)) features
own_among features (Strong c) = filter (λ f. not (has (map (λ p. p.0) c.feats) f)) features
own_among _ _ = []

-- the features are those that are listed for the category
abbrev pub HasListed : List CategoryFeatures → ℕ → List ℕ → Type 0
HasListed known name features = (one : CategoryFeatures) × OneOf known one × (one.name ≡ name) × (one.features ≡ features)

-- what is listed are the features of categories
abbrev pub AreListed : GrammarParts → List CategoryFeatures → Type 0
AreListed g known = (one : CategoryFeatures) → OneOf known one → one.features ≡ features_of g one.name

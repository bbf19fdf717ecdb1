-- Instances of a rule: a value for each of its variables.
use Rattle.std.specs.Prelude.{◌≡◌, ℕ, ◌+◌, max, ◌-◌, ◌==◌, ◌&&◌, not, if◌then◌else◌, Bool, true, false, List, [], ◌∷◌, ◌++◌, length, map, filter, flat_map, drop, Option, Some, None, unwrap_or}
use Rattle.std.specs.List.{list_all, range_with_len}
use Rattle.codeco_terms.specs.declared.values.Value.{Value}
use Rattle.codeco_terms.specs.declared.values.Value.TheVariants.{Atom}
use Rattle.codeco_terms.specs.declared.values.Term.{Term}
use Rattle.codeco_terms.specs.declared.values.Term.TheVariants.{Val, Var}
use Rattle.codeco_terms.specs.declared.categories.Category.{Category}
use Rattle.codeco_terms.specs.declared.categories.Pattern.{Pattern}
use Rattle.codeco_terms.specs.declared.declarations.Declared.TheVariants as declared
use Rattle.codeco_terms.specs.declared.elements.Element.{Element}
use Rattle.codeco_terms.specs.declared.elements.Element.TheVariants.{Forward, Strong}
use Rattle.codeco_terms.specs.declared.rules.Rule.{Rule}
use Rattle.codeco_terms.specs.GrammarParts.{GrammarParts}
use Rattle.scopes.specs.declared.agreement.Test.{Test}
use Rattle.codeco_checked.specs.Occurrences.{rule_features, rule_variables, positions}
use Rattle.codeco_checked.specs.Numbering.{has}
use Rattle.codeco_checked.specs.Faults.{features_written}
use Rattle.derivation_trees.specs.Settings.{Setting, is_value, fits_feature}

-- Under an instance

-- the value of a pair in a list by its number
abbrev pub looked_up : {X : Type 0} → List (ℕ × X) → ℕ → Option X
looked_up [] n = None
looked_up (p ∷ ps) n = if p.0 == n then Some p.1 else looked_up ps n

-- What a variable stands for under an instance. An instance has a value for each variable of its rule, so that it
-- doesn't matter what another variable stands for.
abbrev pub value_under : List (ℕ × Value) → ℕ → Value
value_under values x = unwrap_or (looked_up values x) (Atom 0)

-- what a term stands for under an instance
abbrev pub term_value : List (ℕ × Value) → Term → Value
term_value values (Val v) = v
term_value values (Var x) = value_under values x

abbrev pub feats_under : List (ℕ × Value) → List (ℕ × Term) → List (ℕ × Value)
feats_under values feats = map (λ p. (p.0, term_value values p.1)) feats

-- a category under an instance, with the features that are written
abbrev pub under : List (ℕ × Value) → Category → Test
under values category = record { name = category.name; values = feats_under values category.feats }

-- the tests of patterns under an instance: the unmarked features
abbrev pub tests_under : List (ℕ × Value) → List Pattern → List Test
tests_under values patterns = map (λ p. under values p.cat) patterns

-- Features that a category leaves out

-- one more than the greatest of the numbers, and 0 of none
abbrev pub past_all : List ℕ → ℕ
past_all [] = 0
past_all (x ∷ xs) = max (x + 1) (past_all xs)

-- the features of a category, which are those written with its name anywhere in the grammar, in order of number
abbrev pub features_of : GrammarParts → ℕ → List ℕ
features_of g name = filter (has (features_written g name)) (range_with_len 0 (past_all (features_written g name)))

-- those of the features that aren't written
abbrev pub unwritten : List (ℕ × Term) → List ℕ → List ℕ
unwritten feats features = filter (λ f. not (has (map (λ p. p.0) feats) f)) features

-- the features that a category leaves out
abbrev pub left_out : GrammarParts → Category → List ℕ
left_out g category = unwritten category.feats (features_of g category.name)

-- the features that an introduction leaves out
abbrev pub own_features : GrammarParts → Element → List ℕ
own_features g (Forward c) = left_out g c
own_features g (Strong c) = left_out g c
own_features _ _ = []

-- the features of a rule's own variables, in order of elements and features
abbrev pub rule_own_features : GrammarParts → Rule → List ℕ
rule_own_features g rule = flat_map (own_features g) rule.body

-- Variables of a rule

-- the variables that are written in a rule: they have numbers below sixteen
unfoldable pub written_variables : Rule → List ℕ
written_variables rule = filter (has (rule_variables rule)) (range_with_len 0 16)

-- The variables of a rule: the written ones, and one of its own for each feature that a `>` or `>>` leaves out, numbered
-- from 16 in order of elements and features.
abbrev pub variables_of : GrammarParts → Rule → List ℕ
variables_of g rule = written_variables rule ++ range_with_len 16 (length (rule_own_features g rule))

abbrev pub same_numbers : List ℕ → List ℕ → Bool
same_numbers [] [] = true
same_numbers [] (y ∷ ys) = false
same_numbers (x ∷ xs) [] = false
same_numbers (x ∷ xs) (y ∷ ys) = (x == y) && same_numbers xs ys

-- a variable that stands for a feature has one of its values
abbrev pub term_fits : Setting → List (ℕ × Value) → (ℕ × Term) → Bool
term_fits s values (feature, Val v) = true
term_fits s values (feature, Var x) = fits_feature s feature (value_under values x)

-- the values of a rule's own variables are values of the features left out
abbrev pub own_fit : Setting → List ℕ → List (ℕ × Value) → Bool
own_fit s [] values = true
own_fit s (f ∷ fs) [] = false
own_fit s (f ∷ fs) (p ∷ ps) = fits_feature s f p.1 && own_fit s fs ps

-- the rule's own variables with their values
abbrev pub own_values : Rule → List (ℕ × Value) → List (ℕ × Value)
own_values rule values = drop (length (written_variables rule)) values

-- An instance of a rule gives each of its variables one value of its feature, and a variable of `#` a position.
unfoldable pub is_instance : Setting → Rule → List (ℕ × Value) → Bool
is_instance s rule values =
    same_numbers (map (λ p. p.0) values) (variables_of s.grammar rule) && list_all (term_fits s values) (rule_features rule)
    && list_all (λ x. is_value s declared.Positions (value_under values x)) (flat_map positions rule.body)
    && own_fit s (rule_own_features s.grammar rule) (own_values rule values)

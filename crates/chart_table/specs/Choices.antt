-- The values that a variable of a rule can have at some tokens.
use Rattle.std.specs.Prelude.{◌≡◌, ℕ, ◌+◌, ◌-◌, ◌==◌, ◌&&◌, nat_lt, if◌then◌else◌, Bool, true, false, List, [], ◌∷◌, ◌++◌, length, map, drop, slice_get, Option, Some, None, flat_map}
use Rattle.std.specs.List.{range_with_len, list_all}
use Rattle.codeco_terms.specs.declared.values.Value.{Value}
use Rattle.codeco_terms.specs.declared.values.Value.TheVariants.{Atom, Word, Pos}
use Rattle.codeco_terms.specs.declared.values.Term.{Term}
use Rattle.codeco_terms.specs.declared.values.Term.TheVariants.{Val, Var}
use Rattle.codeco_terms.specs.declared.categories.Pattern.{Pattern}
use Rattle.codeco_terms.specs.declared.categories.Ground.{Ground}
use Rattle.codeco_terms.specs.declared.declarations.Declared.{Declared}
use Rattle.codeco_terms.specs.declared.declarations.Declared.TheVariants as declared
use Rattle.codeco_terms.specs.declared.elements.Element.{Element}
use Rattle.codeco_terms.specs.declared.elements.Element.TheVariants.{Preterminal, Sub, Forward, Strong, Back, NoBack}
use Rattle.codeco_terms.specs.declared.rules.Rule.{Rule}
use Rattle.codeco_terms.specs.GrammarParts.{GrammarParts}
use Rattle.codeco_checked.specs.Numbering.{has}
use Rattle.codeco_checked.specs.Faults.{values_of}
use Rattle.codeco_checked.specs.Occurrences.{positions}
use Rattle.derivation_trees.specs.Settings.{Setting, is_value}
use Rattle.derivation_trees.specs.Instances.{rule_own_features, own_features, written_variables, variables_of, same_numbers, term_fits, own_fit, value_under}
use Rattle.chart_table.specs.declared.choices.Plan.{Plan}
use Rattle.chart_table.specs.Branches.{values_at, marked}
use Rattle.chart_table.specs.Features.{element_features}

-- the features that a pattern writes, with their terms
abbrev pub pattern_terms : Pattern → List (ℕ × Term)
pattern_terms p = p.cat.feats ++ map marked p.taken

-- the features that an element writes, with their terms
abbrev pub element_terms : Element → List (ℕ × Term)
element_terms (Preterminal c) = c.feats
element_terms (Sub c) = c.feats
element_terms (Forward c) = c.feats
element_terms (Strong c) = c.feats
element_terms (Back positive negative) = flat_map pattern_terms positive ++ flat_map pattern_terms negative
element_terms (NoBack patterns) = flat_map pattern_terms patterns
element_terms _ = []

-- the features that a rule writes, with their terms
abbrev pub terms_of : Rule → List (ℕ × Term)
terms_of rule = rule.head.feats ++ flat_map element_terms rule.body

-- the term is the variable
abbrev pub stands_for : Term → ℕ → Bool
stands_for (Val v) x = false
stands_for (Var y) x = y == x

-- the first feature for which the variable stands
abbrev pub first_feature : List (ℕ × Term) → ℕ → Option ℕ
first_feature [] x = None
first_feature (q ∷ terms) x = if stands_for q.1 x then Some q.0 else first_feature terms x

-- the words of readings
abbrev pub words_of : List Ground → List Value
words_of readings = flat_map (λ r. values_at r.vals 3) readings

-- the positions of tokens
abbrev pub all_positions : Setting → List Value
all_positions s = map Pos (range_with_len 0 (length s.tokens + 1))

-- word 0, which stands for every word without a form among the tokens
abbrev pub no_word : Value
no_word = Word (record { 0 = 0 })

abbrev pub atom_value : ℕ → Value
atom_value a = Atom a

-- the values that are declared so
abbrev pub declared_values : Setting → Declared → List Value
declared_values s declared.Undeclared = []
declared_values s declared.Words = no_word ∷ flat_map words_of s.readings
declared_values s declared.Positions = all_positions s
declared_values s (declared.Atoms atoms) = map atom_value atoms

-- the values of a feature
abbrev pub feature_values : Setting → ℕ → List Value
feature_values s feature = declared_values s (values_of s.grammar feature)

-- the values of one of the rule's own variables
abbrev pub own_choices : Setting → Option ℕ → List Value
own_choices s None = Atom 0 ∷ []
own_choices s (Some feature) = feature_values s feature

-- the values of a variable that stands for the feature, or only after `#`, or is one of the rule's own
abbrev pub variable_choices : Setting → List ℕ → ℕ → Option ℕ → Bool → List Value
variable_choices s own x (Some feature) at_position = feature_values s feature
variable_choices s own x None true = all_positions s
variable_choices s own x None false = if nat_lt x 16 then Atom 0 ∷ [] else own_choices s (slice_get own (x - 16))

-- the values that a term of a rule can have
abbrev pub choices : Setting → List (ℕ × Term) → List ℕ → List ℕ → Term → List Value
choices s terms places own (Val v) = v ∷ []
choices s terms places own (Var x) = variable_choices s own x (first_feature terms x) (has places x)

-- the values that a term of the rule can have
abbrev pub choices_in : Setting → Rule → Term → List Value
choices_in s rule = choices s (terms_of rule) (flat_map positions rule.body) (rule_own_features s.grammar rule)

-- what a rule writes, and its variables
pub record IsPlanOf (g : GrammarParts) (rule : Rule) (plan : Plan) : Type 0 where
  pub terms : plan.terms ≡ terms_of rule
  pub places : plan.places ≡ flat_map positions rule.body
  pub own : plan.own ≡ rule_own_features g rule
  pub variables : plan.variables ≡ variables_of g rule
  pub written : plan.written ≡ length (written_variables rule)
  pub counts : plan.counts ≡ map (λ e. length (own_features g e)) rule.body
  pub features : plan.features ≡ map (element_features g) rule.body

abbrev pub IsPlan : Setting → Rule → Plan → Type 0
IsPlan s rule plan = IsPlanOf s.grammar rule plan

-- one plan for each rule
abbrev pub EachPlan : GrammarParts → List Rule → List Plan → Type 0
EachPlan g [] [] = Unit {0}
EachPlan g [] (plan ∷ plans) = ⊥
EachPlan g (rule ∷ rules) [] = ⊥
EachPlan g (rule ∷ rules) (plan ∷ plans) = IsPlanOf g rule plan × EachPlan g rules plans

-- one plan for each rule of the grammar
abbrev pub ArePlans : Setting → List Plan → Type 0
ArePlans s plans = EachPlan s.grammar s.grammar.rules plans

-- the values have the numbers of the plan's variables, and are values of the features and positions that it tells
abbrev pub planned_instance : Setting → Plan → List (ℕ × Value) → Bool
planned_instance s plan values =
    ((same_numbers (map (λ p. p.0) values) plan.variables && list_all (term_fits s values) plan.terms)
    && list_all (λ x. is_value s declared.Positions (value_under values x)) plan.places) && own_fit s plan.own (drop plan.written values)

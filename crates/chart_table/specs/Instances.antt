-- The instances of a rule by which its elements lead somewhere.
use Rattle.std.specs.Prelude.{◌≡◌, ℕ, true, List, [], ◌∷◌, map}
use Rattle.codeco_terms.specs.declared.values.Value.{Value}
use Rattle.codeco_terms.specs.declared.rules.Rule.{Rule}
use Rattle.derivation_trees.specs.Settings.{Setting}
use Rattle.derivation_trees.specs.Instances.{own_values, is_instance, variables_of}
use Rattle.derivation_trees.specs.Derives.{At}
use Rattle.chart_table.specs.declared.states.State.{State}
use Rattle.chart_table.specs.Leading.{Path}
use Rattle.chart_table.specs.Branches.{OneOf, closing}
use Rattle.chart_table.specs.Choices.{choices_in}
use Rattle.chart_table.specs.Ends.{Agrees, as_terms, values_of_all}

-- each instance of the rule that agrees with the known values, and by which the elements lead somewhere, is one of these
abbrev pub HasInstances : Setting → Rule → List (ℕ × Value) → At → List (List (ℕ × Value)) → Type 0
HasInstances s rule known at instances =
    (values : List (ℕ × Value)) (last : At) → is_instance s rule values ≡ true → Agrees known rule values
    → Path s values (own_values rule values) rule.body at last → OneOf instances values

-- the values of all variables of the rule in a state, in each way
abbrev pub closed_values : Setting → Rule → State → List (List (ℕ × Value))
closed_values s rule state =
    map (λ b. values_of_all b (variables_of s.grammar rule)) (closing (choices_in s rule) (as_terms (variables_of s.grammar rule)) (state.binds ∷ []))

-- the later list has the values of the first and these
pub record HasMore (before after more : List (List (ℕ × Value))) : Type 0 where
  pub kept : (v : List (ℕ × Value)) → OneOf before v → OneOf after v
  pub new : (v : List (ℕ × Value)) → OneOf more v → OneOf after v

-- the later list has the values of the first and those in the states
pub record HasStates (s : Setting) (rule : Rule) (states : List State) (before after : List (List (ℕ × Value))) : Type 0 where
  pub kept : (v : List (ℕ × Value)) → OneOf before v → OneOf after v
  pub new : (state : State) (v : List (ℕ × Value)) → OneOf states state → OneOf (closed_values s rule state) v → OneOf after v

-- The ends that the rules up to a number give, and the states that the elements gone so far lead to.
use Rattle.std.specs.Prelude.{◌≡◌, ℕ, ◌-◌, ◌≤◌, true, List, [], drop, Some}
use Rattle.codeco_terms.specs.declared.values.Value.{Value}
use Rattle.codeco_terms.specs.declared.elements.Element.{Element}
use Rattle.codeco_terms.specs.declared.rules.Rule.{Rule}
use Rattle.derivation_trees.specs.Settings.{Setting}
use Rattle.derivation_trees.specs.Instances.{own_values, is_instance}
use Rattle.derivation_trees.specs.Derives.{At, rule_with}
use Rattle.chart_table.specs.declared.states.State.{State}
use Rattle.chart_table.specs.declared.states.End.{End}
use Rattle.chart_table.specs.Branches.{OneOf}
use Rattle.chart_table.specs.Ends.{IsRuleEnd, HasRuleEnds, CoversPath}

-- the end is that of an instance of a rule with the name
pub record IsEndOf (s : Setting) (name : ℕ) (at : At) (e : End) : Type 0 where
  pub number : ℕ
  pub rule : Rule
  pub has : rule_with s.grammar number ≡ Some rule
  pub named : rule.head.name ≡ name
  pub ends : IsRuleEnd s rule at e

-- each rule with the name, up to this number, has its ends among these
abbrev pub HasEndsTo : Setting → ℕ → List (ℕ × Value) → At → ℕ → List End → Type 0
HasEndsTo s name known at count ends =
    (number : ℕ) (rule : Rule) → rule_with s.grammar number ≡ Some rule → number ≤ count → rule.head.name ≡ name → HasRuleEnds s rule known at ends

-- Where the elements that are left lead from the states is where all elements lead from the states at the start.
pub record AreReached (s : Setting) (rule : Rule) (starts : List State) (n : ℕ) (es : List Element) (states : List State) : Type 0 where
  pub numbered : 16 ≤ n
  pub forth : (v : List (ℕ × Value)) (last : At) → is_instance s rule v ≡ true → CoversPath s v (own_values rule v) rule.body last starts
      → CoversPath s v (drop (n - 16) (own_values rule v)) es last states
  pub back : (v : List (ℕ × Value)) (last : At) → is_instance s rule v ≡ true → CoversPath s v (drop (n - 16) (own_values rule v)) es last states
      → CoversPath s v (own_values rule v) rule.body last starts

-- the states after all elements of a rule
abbrev pub AreLast : Setting → Rule → List State → List State → Type 0
AreLast s rule starts states = (n : ℕ) × AreReached s rule starts n [] states

-- what the rules up to this number give
pub record HasEndsUpTo (s : Setting) (name : ℕ) (known : List (ℕ × Value)) (at : At) (count : ℕ) (ends : List End) : Type 0 where
  pub sound : (e : End) → OneOf ends e → IsEndOf s name at e
  pub complete : HasEndsTo s name known at count ends

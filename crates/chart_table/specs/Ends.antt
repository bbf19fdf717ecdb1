-- Where the phrases of a category end, as a list of ends.
use Rattle.std.specs.Prelude.{◌≡◌, ℕ, ◌+◌, ◌&&◌, flat_map, if◌then◌else◌, Bool, true, List, [], ◌∷◌, ◌++◌, length, map, drop, ◌⊎◌}
use Rattle.std.specs.List.{list_all}
use Rattle.codeco_terms.specs.declared.values.Value.{Value}
use Rattle.codeco_terms.specs.declared.values.Term.{Term}
use Rattle.codeco_terms.specs.declared.values.Term.TheVariants.{Var}
use Rattle.codeco_terms.specs.declared.elements.Element.{Element}
use Rattle.codeco_terms.specs.declared.rules.Rule.{Rule}
use Rattle.scopes.specs.declared.entries.Entry.{Entry}
use Rattle.scopes.specs.declared.agreement.Test.{Test}
use Rattle.scopes.specs.AccessList.{closed}
use Rattle.derivation_trees.specs.Settings.{Setting}
use Rattle.codeco_terms.specs.Values.{same_value}
use Rattle.derivation_trees.specs.Instances.{value_under, feats_under, own_values, is_instance, variables_of}
use Rattle.derivation_trees.specs.Derives.{At, fits, same_where_both, first_value}
use Rattle.chart_table.specs.declared.states.State.{State}
use Rattle.chart_table.specs.declared.states.End.{End}
use Rattle.chart_table.specs.Leading.{Leads, ElementLeads, Path}
use Rattle.chart_table.specs.Branches.{OneOf, Extends, closing}
use Rattle.chart_table.specs.Choices.{choices_in}
use Rattle.chart_table.specs.Steps.{at_of, Covers}

-- the place and the list after a phrase with this end
abbrev pub end_at : At → End → At
end_at at e = record { place = e.place; list = at.list ++ e.tail }

-- the head of a phrase with this end, with the features that it writes
abbrev pub end_head : ℕ → End → Test
end_head name e = record { name = name; values = e.values }

-- The ends of the phrases of a category that agree with known values of features: a phrase for a category that fits an end
-- leads there, and each phrase for a category that has the known values leads to an end that the category fits.
pub record IsEnds (s : Setting) (name : ℕ) (known : List (ℕ × Value)) (at : At) (ends : List End) : Type 0 where
  pub sound : (e : End) → OneOf ends e → (asked : Test) → asked.name ≡ name → fits (end_head name e) asked ≡ true → Leads s asked at (end_at at e)
  pub complete : (asked : Test) (after : At) → asked.name ≡ name → ((p : ℕ × Value) → OneOf known p → OneOf asked.values p) → Leads s asked at after
      → (e : End) × OneOf ends e × (fits (end_head name e) asked ≡ true) × (after ≡ end_at at e)

-- what is left of what a phrase of the rule has added to the list
abbrev pub left_of : Rule → List Entry → List Entry
left_of rule added = if rule.closing then closed added else added

-- the end of a phrase of the rule, in an instance, that stands there after its last element
pub record EndsAt (rule : Rule) (values : List (ℕ × Value)) (before : List Entry) (last : At) (e : End) : Type 0 where
  pub head : e.values ≡ feats_under values rule.head.feats
  pub place : e.place ≡ last.place
  pub tail : e.tail ≡ left_of rule (drop (length before) last.list)

-- the instance of the rule agrees with the known values in its head
abbrev pub Agrees : List (ℕ × Value) → Rule → List (ℕ × Value) → Type 0
Agrees known rule values = list_all (λ p. list_all (same_where_both p) (feats_under values rule.head.feats)) known ≡ true

-- the end is that of an instance of the rule
pub record IsRuleEnd (s : Setting) (rule : Rule) (at : At) (e : End) : Type 0 where
  pub values : List (ℕ × Value)
  pub instance : is_instance s rule values ≡ true
  pub last : At
  pub path : Path s values (own_values rule values) rule.body at last
  pub ends : EndsAt rule values at.list last e

-- each instance of the rule that agrees with the known values has an end
abbrev pub HasRuleEnds : Setting → Rule → List (ℕ × Value) → At → List End → Type 0
HasRuleEnds s rule known at ends =
    (values : List (ℕ × Value)) (last : At) → is_instance s rule values ≡ true → Agrees known rule values
    → Path s values (own_values rule values) rule.body at last → (e : End) × OneOf ends e × EndsAt rule values at.list last e

-- some state covers where the elements lead on to the last place and list
abbrev pub CoversPath : Setting → List (ℕ × Value) → List (ℕ × Value) → List Element → At → List State → Type 0
CoversPath s values own es last [] = ⊥
CoversPath s values own es last (state ∷ states) =
    (Extends values state.binds × Path s values own es (at_of state) last) ⊎ CoversPath s values own es last states

-- an element leads there from some state
abbrev pub LeadsFrom : Setting → List (ℕ × Value) → List (ℕ × Value) → Element → At → List State → Type 0
LeadsFrom s values own e after [] = ⊥
LeadsFrom s values own e after (state ∷ states) =
    (Extends values state.binds × ElementLeads s values own e (at_of state) after) ⊎ LeadsFrom s values own e after states

-- the values of all variables of a rule under an assignment
abbrev pub values_of_all : List (ℕ × Value) → List ℕ → List (ℕ × Value)
values_of_all bound numbers = map (λ x. (x, value_under bound x)) numbers

-- the variables as terms
abbrev pub as_terms : List ℕ → List (ℕ × Term)
as_terms numbers = map (λ x. (0, Var x)) numbers

-- the values are those of the assignment
abbrev pub has_values : List (ℕ × Value) → List (ℕ × Value) → Bool
has_values values bound = list_all (λ p. same_value (value_under values p.0) p.1) bound

-- the end of a phrase of the rule with these values
abbrev pub end_with : Rule → List Entry → State → List (ℕ × Value) → End
end_with rule before state values = record {
  values = feats_under values rule.head.feats;
  place = state.place;
  tail = left_of rule (drop (length before) state.list);
}

-- the end in an assignment of all variables, if that is an instance
abbrev pub finished_one : Setting → Rule → List Entry → State → List ℕ → List (ℕ × Value) → List End
finished_one s rule before state numbers bound =
    let values = values_of_all bound numbers in
    if is_instance s rule values && has_values values bound then end_with rule before state values ∷ [] else []

-- the ends of phrases of the rule that stand so after the last element
abbrev pub finished : Setting → Rule → List Entry → State → List End
finished s rule before state =
    let numbers = variables_of s.grammar rule in
    flat_map (finished_one s rule before state numbers) (closing (choices_in s rule) (as_terms numbers) (state.binds ∷ []))

-- the later list has the ends of the first and these, and no others
pub record HasMore (before after more : List End) : Type 0 where
  pub kept : (e : End) → OneOf before e → OneOf after e
  pub new : (e : End) → OneOf more e → OneOf after e
  pub only : (e : End) → OneOf after e → OneOf before e ⊎ OneOf more e

-- the own variables to come are those from a number on
abbrev pub OwnFrom : List (ℕ × Value) → List (ℕ × Value) → ℕ → Type 0
OwnFrom v own n = (j : ℕ) → first_value (drop j own) ≡ value_under v (n + j)

-- the states after an element cover exactly where it leads from a state
pub record IsStep (s : Setting) (rule : Rule) (n : ℕ) (e : Element) (state : State) (news : List State) : Type 0 where
  pub forth : (v own : List (ℕ × Value)) (after : At) → is_instance s rule v ≡ true → OwnFrom v own n → Extends v state.binds
      → ElementLeads s v own e (at_of state) after → Covers v after news
  pub back : (v own : List (ℕ × Value)) (after : At) → is_instance s rule v ≡ true → OwnFrom v own n → Covers v after news
      → Extends v state.binds × ElementLeads s v own e (at_of state) after

-- the states after an element cover exactly where it leads from the states
pub record AreSteps (s : Setting) (rule : Rule) (n : ℕ) (e : Element) (states news : List State) : Type 0 where
  pub forth : (v own : List (ℕ × Value)) (after : At) → is_instance s rule v ≡ true → OwnFrom v own n → LeadsFrom s v own e after states → Covers v after news
  pub back : (v own : List (ℕ × Value)) (after : At) → is_instance s rule v ≡ true → OwnFrom v own n → Covers v after news → LeadsFrom s v own e after states

-- the later list has the ends of the first, and of the phrases that stand in these states after the last element
pub record HasFinished (s : Setting) (rule : Rule) (start : List Entry) (states : List State) (before after : List End) : Type 0 where
  pub kept : (e : End) → OneOf before e → OneOf after e
  pub new : (state : State) (e : End) → OneOf states state → OneOf (finished s rule start state) e → OneOf after e
  pub only : (e : End) → OneOf after e → OneOf before e ⊎ ((state : State) × OneOf states state × OneOf (finished s rule start state) e)

-- the later list has the ends of the first and those of the rule
pub record HasEndsOfRule (s : Setting) (rule : Rule) (known : List (ℕ × Value)) (at : At) (before after : List End) : Type 0 where
  pub kept : (e : End) → OneOf before e → OneOf after e
  pub new : HasRuleEnds s rule known at after
  pub only : (e : End) → OneOf after e → OneOf before e ⊎ IsRuleEnd s rule at e

-- the later list has the ends of the first and, if the rule has the name, those of the rule
pub record HasEndsIfNamed (s : Setting) (rule : Rule) (name : ℕ) (known : List (ℕ × Value)) (at : At) (before after : List End) : Type 0 where
  pub named : rule.head.name ≡ name → HasEndsOfRule s rule known at before after
  pub other : (rule.head.name ≡ name → ⊥) → after ≡ before

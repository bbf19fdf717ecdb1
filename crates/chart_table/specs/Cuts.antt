-- Where cut-off phrases of a category begin, and what they are asked for.
use Rattle.std.specs.Prelude.{◌≡◌, ℕ, ◌-◌, ◌≤◌, ◌<◌, if◌then◌else◌, true, false, List, [], ◌∷◌, length, take, drop, slice_get, Option, Some, None, ◌⊎◌}
use Rattle.codeco_terms.specs.declared.values.Value.{Value}
use Rattle.codeco_terms.specs.declared.categories.Category.{Category}
use Rattle.codeco_terms.specs.declared.categories.Ground.{Ground}
use Rattle.codeco_terms.specs.declared.elements.Element.{Element}
use Rattle.codeco_terms.specs.declared.elements.Element.TheVariants.{Preterminal}
use Rattle.codeco_terms.specs.declared.rules.Rule.{Rule}
use Rattle.scopes.specs.declared.agreement.Test.{Test}
use Rattle.derivation_trees.specs.Settings.{Setting}
use Rattle.derivation_trees.specs.Instances.{under, feats_under, own_values, is_instance}
use Rattle.derivation_trees.specs.Derives.{At, fits}
use Rattle.derivation_trees.specs.Partial.{next_category, sub_of}
use Rattle.derivation_trees.specs.Starts.{may_start}
use Rattle.chart_table.specs.declared.asks.Ask.{Ask}
use Rattle.chart_table.specs.declared.asks.Ask.TheVariants as ask
use Rattle.chart_table.specs.declared.states.State.{State}
use Rattle.chart_table.specs.declared.states.Cut.{Cut}
use Rattle.chart_table.specs.declared.states.Told.{Told}
use Rattle.chart_table.specs.Aims.{Aims}
use Rattle.chart_table.specs.Leading.{Path, own_past}
use Rattle.chart_table.specs.Branches.{OneOf, Extends, AnyExtends, read_as, meeting}
use Rattle.chart_table.specs.Steps.{at_of, Covers}
use Rattle.chart_table.specs.Ends.{CoversPath, Agrees}
use Rattle.chart_table.specs.Asks.{AskLeads, meets, takes_terminal}

-- some cut-off node, as a phrase for the category from the place and the list, is cut off at the place, and there its next
-- element meets the ask with the number
abbrev pub CutLeads : Setting → Aims → ℕ → Test → At → Type 0
CutLeads s aim j asked at = (a : Ask) × (slice_get aim.asks j ≡ Some a) × AskLeads s aim.halt a asked at

-- the next element meets the ask with the number, in the instance
abbrev pub Met : Aims → ℕ → List (ℕ × Value) → Option Element → Type 0
Met aim j values next = (a : Ask) × (slice_get aim.asks j ≡ Some a) × (meets values next a ≡ true)

-- A node that has gone so many elements of its rule is cut off there: it stands at the place and its next element meets the
-- ask, or a category comes next that is cut off itself.
abbrev pub Stops : Setting → Aims → ℕ → Rule → List (ℕ × Value) → ℕ → At → Type 0
Stops s aim j rule values count last =
    ((last.place ≡ aim.halt) × Met aim j values (slice_get rule.body count))
    ⊎ ((c : Category) × (next_category rule count ≡ Some c) × CutLeads s aim j (under values c) last)

-- the cut-off phrase, by the number of an ask that it meets and the values of its head, is among them
abbrev pub HasCut : List Cut → ℕ → List (ℕ × Value) → Type 0
HasCut cuts j values = (e : Cut) × OneOf cuts e × (e.ask ≡ j) × (e.values ≡ values)

-- the head of a cut-off phrase, with the features that it writes
abbrev pub cut_head : ℕ → List (ℕ × Value) → Test
cut_head name values = record { name = name; values = values }

-- The cut-off phrases of a category that agree with known values of features, by the numbers of the asks that they meet and
-- the values of their heads: each category that fits one has a cut-off node, and each category with the known values that has
-- one fits one.
pub record AreCuts (s : Setting) (aim : Aims) (name : ℕ) (known : List (ℕ × Value)) (at : At) (cuts : List Cut) : Type 0 where
  pub sound : (j : ℕ) (values : List (ℕ × Value)) → HasCut cuts j values → (asked : Test) → asked.name ≡ name → fits (cut_head name values) asked ≡ true
      → CutLeads s aim j asked at
  pub complete : (j : ℕ) (asked : Test) → asked.name ≡ name → ((p : ℕ × Value) → OneOf known p → OneOf asked.values p) → CutLeads s aim j asked at
      → (values : List (ℕ × Value)) × HasCut cuts j values × (fits (cut_head name values) asked ≡ true)

-- the own variables that are to come after elements
abbrev pub own_after : Setting → List Element → List (ℕ × Value) → List (ℕ × Value)
own_after s [] own = own
own_after s (e ∷ es) own = own_after s es (own_past s e own)

-- the states after the first elements of a rule cover exactly where these lead from the states at the start
pub record AreAfter (s : Setting) (rule : Rule) (starts : List State) (n count : ℕ) (states : List State) : Type 0 where
  pub numbered : 16 ≤ n
  pub own_is : (v : List (ℕ × Value)) → own_after s (take count rule.body) (own_values rule v) ≡ drop (n - 16) (own_values rule v)
  pub forth : (v : List (ℕ × Value)) (last : At) → is_instance s rule v ≡ true → CoversPath s v (own_values rule v) (take count rule.body) last starts
      → Covers v last states
  pub back : (v : List (ℕ × Value)) (last : At) → is_instance s rule v ≡ true → Covers v last states
      → CoversPath s v (own_values rule v) (take count rule.body) last starts

-- the states after all elements of a rule
abbrev pub AreAllAfter : Setting → Rule → List State → List State → Type 0
AreAllAfter s rule starts states = (n : ℕ) × AreAfter s rule starts n (length rule.body) states

-- one of the states has the property
abbrev pub Among : (State → Type 0) → List State → Type 0
Among P [] = ⊥
Among P (state ∷ states) = P state ⊎ Among P states

-- the instance extends the assignment of a state at the place, and there the next element meets the ask
abbrev pub Halts : Aims → Option Element → ℕ → List (ℕ × Value) → State → Type 0
Halts aim next j v state = Extends v state.binds × (state.place ≡ aim.halt) × Met aim j v next

-- the instance extends the state's assignment, and the element is a category that is cut off from there
abbrev pub Enters : Setting → Aims → Element → ℕ → List (ℕ × Value) → State → Type 0
Enters s aim e j v state = Extends v state.binds × ((c : Category) × (sub_of e ≡ Some c) × CutLeads s aim j (under v c) (at_of state))

-- the instance is cut off, from one of the states at the start, after fewer elements
abbrev pub CutBefore : Setting → Aims → Rule → List State → ℕ → ℕ → List (ℕ × Value) → Type 0
CutBefore s aim rule starts count j v =
    (k : ℕ) × (k < count) × ((last : At) × CoversPath s v (own_values rule v) (take k rule.body) last starts × Stops s aim j rule v k last)

-- the later list has the cut-off phrases of the first, and for each number of an ask the heads of the instances that have the
-- property, and no others
pub record HasHeads (s : Setting) (rule : Rule) (P : ℕ → List (ℕ × Value) → Type 0) (before after : List Cut) : Type 0 where
  pub kept : (j : ℕ) (values : List (ℕ × Value)) → HasCut before j values → HasCut after j values
  pub new : (j : ℕ) (v : List (ℕ × Value)) → is_instance s rule v ≡ true → P j v → HasCut after j (feats_under v rule.head.feats)
  pub only : (j : ℕ) (values : List (ℕ × Value)) → HasCut after j values
      → HasCut before j values ⊎ ((v : List (ℕ × Value)) × (is_instance s rule v ≡ true) × P j v × (values ≡ feats_under v rule.head.feats))

-- for the ask with the number, the instance extends one of the assignments
abbrev pub IsOf : ℕ → List (List (ℕ × Value)) → ℕ → List (ℕ × Value) → Type 0
IsOf number bounds j v = (j ≡ number) × AnyExtends v bounds

-- the values of the head are told by the assignment
abbrev pub Settles : Rule → List (ℕ × Value) → Type 0
Settles rule bound = (v : List (ℕ × Value)) → Extends v bound → feats_under v rule.head.feats ≡ feats_under bound rule.head.feats

abbrev pub AllSettle : Rule → List (List (ℕ × Value)) → Type 0
AllSettle rule [] = Unit {0}
AllSettle rule (b ∷ bs) = Settles rule b × AllSettle rule bs

-- the later list has the cut-off phrases of the first and this one, and no others
pub record HasOneMore (number : ℕ) (head : List (ℕ × Value)) (before after : List Cut) : Type 0 where
  pub kept : (j : ℕ) (values : List (ℕ × Value)) → HasCut before j values → HasCut after j values
  pub new : HasCut after number head
  pub only : (j : ℕ) (values : List (ℕ × Value)) → HasCut after j values → HasCut before j values ⊎ ((j ≡ number) × (values ≡ head))

-- some instance of the rule extends the assignment
abbrev pub IsPossible : Setting → Rule → List (ℕ × Value) → Type 0
IsPossible s rule bound = (v : List (ℕ × Value)) × (is_instance s rule v ≡ true) × Extends v bound

-- the property holds with one of the first so many items
abbrev pub OneBefore : {X : Type 0} → List X → (ℕ → X → ℕ → List (ℕ × Value) → Type 0) → ℕ → ℕ → List (ℕ × Value) → Type 0
OneBefore {X = X} xs P count j v = (k : ℕ) × (k < count) × ((x : X) × (slice_get xs k ≡ Some x) × P k x j v)

-- the assignments under which the element takes a token that reads so
abbrev pub reading_binds : Ground → Element → List (ℕ × Value) → List (List (ℕ × Value))
reading_binds reading (Preterminal c) bound = read_as c bound reading
reading_binds _ _ _ = []

-- the assignments under which the next element meets the ask
abbrev pub met_binds : Option Element → List (ℕ × Value) → Ask → List (List (ℕ × Value))
met_binds next bound ask.Any = bound ∷ []
met_binds None bound (ask.Terminal number) = []
met_binds (Some e) bound (ask.Terminal number) = if takes_terminal number e then bound ∷ [] else []
met_binds None bound (ask.Reading reading) = []
met_binds (Some e) bound (ask.Reading reading) = reading_binds reading e bound

-- the assignment meets the values of the cut-off phrase of a category
abbrev pub within_binds : Category → List (ℕ × Value) → Cut → List (List (ℕ × Value))
within_binds c bound e = meeting e.values c.feats (bound ∷ [])

-- for the ask, which has the number, the instance extends an assignment under which the next element meets it
abbrev pub MeetsOne : Option Element → List (ℕ × Value) → ℕ → Ask → ℕ → List (ℕ × Value) → Type 0
MeetsOne next bound k a j v = IsOf k (met_binds next bound a) j v

-- for the ask of the cut-off phrase of a category, the instance extends an assignment that meets its values
abbrev pub MeetsCut : Category → List (ℕ × Value) → ℕ → Cut → ℕ → List (ℕ × Value) → Type 0
MeetsCut c bound k e j v = IsOf e.ask (within_binds c bound e) j v

-- the heads are those of the rule that the values tell, where a category with them is met in the assignment
abbrev pub IsTold : Setting → Rule → Category → List (ℕ × Value) → Told → Type 0
IsTold s rule c bound t = HasHeads s rule (IsOf 0 (meeting t.values c.feats (bound ∷ []))) [] t.heads

-- the one with this number tells what these values tell
pub record IsTelling (told : List Told) (number : ℕ) (values : List (ℕ × Value)) : Type 0 where
  pub one : Told
  pub is : slice_get told number ≡ Some one
  pub values_are : one.values ≡ values

-- the later list has the cut-off phrases of the first and, for the ask with the number, these heads, and no others
pub record HasCopies (number : ℕ) (heads before after : List Cut) : Type 0 where
  pub kept : (j : ℕ) (values : List (ℕ × Value)) → HasCut before j values → HasCut after j values
  pub new : (e : Cut) → OneOf heads e → HasCut after number e.values
  pub only : (j : ℕ) (values : List (ℕ × Value)) → HasCut after j values
      → HasCut before j values ⊎ ((j ≡ number) × ((e : Cut) × OneOf heads e × (e.values ≡ values)))

-- the values are those of the rule's head in an instance in which it is cut off
pub record IsRuleCut (s : Setting) (aim : Aims) (rule : Rule) (at : At) (j : ℕ) (head : List (ℕ × Value)) : Type 0 where
  pub values : List (ℕ × Value)
  pub instance : is_instance s rule values ≡ true
  pub is : head ≡ feats_under values rule.head.feats
  pub count : ℕ
  pub last : At
  pub path : Path s values (own_values rule values) (take count rule.body) at last
  pub stop : Stops s aim j rule values count last

-- each instance that agrees with the known values and is cut off has its head among these
abbrev pub HasRuleCuts : Setting → Aims → Rule → List (ℕ × Value) → At → List Cut → Type 0
HasRuleCuts s aim rule known at cuts =
    (j : ℕ) (v : List (ℕ × Value)) (k : ℕ) (last : At) → is_instance s rule v ≡ true → Agrees known rule v
    → Path s v (own_values rule v) (take k rule.body) at last → Stops s aim j rule v k last → HasCut cuts j (feats_under v rule.head.feats)

-- the later list has the cut-off phrases of the first, and those of the rule
pub record HasCutsOfRule (s : Setting) (aim : Aims) (rule : Rule) (known : List (ℕ × Value)) (at : At) (before after : List Cut) : Type 0 where
  pub kept : (j : ℕ) (values : List (ℕ × Value)) → HasCut before j values → HasCut after j values
  pub new : HasRuleCuts s aim rule known at after
  pub only : (j : ℕ) (values : List (ℕ × Value)) → HasCut after j values → HasCut before j values ⊎ IsRuleCut s aim rule at j values

-- the later list has the cut-off phrases of the first and, if the rule has the name, those of the rule
pub record HasCutsIfNamed (s : Setting) (aim : Aims) (rule : Rule) (name : ℕ) (known : List (ℕ × Value)) (at : At) (before after : List Cut) : Type 0 where
  pub named : rule.head.name ≡ name → HasCutsOfRule s aim rule known at before after
  pub other : (rule.head.name ≡ name → ⊥) → after ≡ before

-- nothing is cut off at the place, and the rule's first element that takes tokens can't stand there
pub record IsIdle (s : Setting) (aim : Aims) (rule : Rule) (place : ℕ) : Type 0 where
  pub before : place ≡ aim.halt → ⊥
  pub not : may_start s place rule.body ≡ false

-- Where a node may stand after one more element, as a list of states. Only private calls speak of it.
use Rattle.std.specs.Prelude.{◌≡◌, ℕ, ◌+◌, if◌then◌else◌, Bool, true, false, List, [], ◌∷◌, ◌++◌, map, slice_get, Option, Some, None, ◌⊎◌, flat_map, unwrap_or}
use Rattle.std.specs.List.{list_any}
use Rattle.codeco_terms.specs.declared.values.Value.{Value}
use Rattle.codeco_terms.specs.declared.values.Value.TheVariants.{Pos}
use Rattle.codeco_terms.specs.declared.values.Term.{Term}
use Rattle.codeco_terms.specs.declared.values.Term.TheVariants.{Var}
use Rattle.codeco_terms.specs.declared.categories.Category.{Category}
use Rattle.codeco_terms.specs.declared.categories.Pattern.{Pattern}
use Rattle.codeco_terms.specs.declared.categories.Ground.{Ground}
use Rattle.codeco_terms.specs.declared.elements.Element.{Element}
use Rattle.codeco_terms.specs.declared.elements.Element.TheVariants.{Terminal, Preterminal, Sub, Position, Opener, Forward, Strong, Back, NoBack}
use Rattle.scopes.specs.declared.entries.Entry.{Entry}
use Rattle.scopes.specs.declared.entries.Entry.TheVariants as entry
use Rattle.scopes.specs.AccessList.{introduced}
use Rattle.scopes.specs.Resolution.{Finding, is_agreeing, closest_finding}
use Rattle.derivation_trees.specs.Settings.{Setting, matches_terminal}
use Rattle.derivation_trees.specs.Instances.{looked_up, feats_under, tests_under, features_of}
use Rattle.derivation_trees.specs.Derives.{At, reference_tests}
use Rattle.chart_table.specs.declared.states.State.{State}
use Rattle.chart_table.specs.declared.states.End.{End}
use Rattle.chart_table.specs.Branches.{Extends, restricted, having, read_as, meeting, closing, closing_patterns, marked}

-- the place and the list of a state
abbrev pub at_of : State → At
at_of state = record { place = state.place; list = state.list }

-- some state stands there, whose assignment the instance extends
abbrev pub Covers : List (ℕ × Value) → At → List State → Type 0
Covers values at [] = ⊥
Covers values at (state ∷ states) = (Extends values state.binds × (at_of state ≡ at)) ⊎ Covers values at states

-- states at one place with one list
abbrev pub placed : ℕ → List Entry → List (List (ℕ × Value)) → List State
placed place list bs = map (λ b. record { binds = b; place = place; list = list }) bs

-- the readings of the token at the place
abbrev pub readings_at : Setting → ℕ → List Ground
readings_at s place = unwrap_or (slice_get s.readings place) []

-- the assignments under which the category is one of the readings
abbrev pub read_all : Category → List (ℕ × Value) → List Ground → List (List (ℕ × Value))
read_all c bound readings = flat_map (read_as c bound) readings

abbrev pub completed_term : ℕ → Option Term → Term
completed_term n None = Var n
completed_term n (Some t) = t

abbrev pub number_after : ℕ → Option Term → ℕ
number_after n None = n + 1
number_after n (Some t) = n

-- the features of an introduction, those that it leaves out with the rule's own variables from this number on
abbrev pub completed : List (ℕ × Term) → List ℕ → ℕ → List (ℕ × Term)
completed feats [] n = []
completed feats (f ∷ fs) n = (f, completed_term n (looked_up feats f)) ∷ completed feats fs (number_after n (looked_up feats f))

-- the state after an introduction, where its features are known
abbrev pub introduced_state : ℕ → List (ℕ × Term) → Bool → State → List (ℕ × Value) → State
introduced_state name feats strong state b = record {
  binds = b;
  place = state.place;
  list = state.list ++ introduced (record { name = name; vals = feats_under b feats }) state.place strong ∷ [];
}

abbrev pub introducing : Setting → (Term → List Value) → ℕ → Category → Bool → State → List State
introducing s choices n c strong state =
    let feats = completed c.feats (features_of s.grammar c.name) n in
    map (introduced_state c.name feats strong state) (closing choices feats (state.binds ∷ []))

-- the assignments under which the pattern takes the referent's values
abbrev pub taking : Ground → List (ℕ × Value) → Option Pattern → List (List (ℕ × Value))
taking referent b None = []
taking referent b (Some pattern) = having referent.vals (map marked pattern.taken) (b ∷ [])

abbrev pub finding_binds : List Pattern → List (ℕ × Value) → Option Finding → List (List (ℕ × Value))
finding_binds positive b None = []
finding_binds positive b (Some finding) = taking finding.referent b (slice_get positive finding.pattern)

-- the assignments under which the reference finds a referent, whose tests are known
abbrev pub refer_one : List Pattern → List Pattern → List Entry → List (ℕ × Value) → List (List (ℕ × Value))
refer_one positive negative list b =
    finding_binds positive b (closest_finding (reference_tests b positive negative) list)

abbrev pub refer : List Pattern → List Pattern → List Entry → List (List (ℕ × Value)) → List (List (ℕ × Value))
refer positive negative list bs = flat_map (refer_one positive negative list) bs

-- the assignment alone, where no referent agrees
abbrev pub refer_none_one : List Pattern → List Entry → List (ℕ × Value) → List (List (ℕ × Value))
refer_none_one patterns list b = if list_any (is_agreeing (tests_under b patterns)) list then [] else b ∷ []

-- the assignments under which no referent agrees
abbrev pub refer_none : List Pattern → List Entry → List (List (ℕ × Value)) → List (List (ℕ × Value))
refer_none patterns list bs = flat_map (refer_none_one patterns list) bs

-- the states after an element that is no category
abbrev pub plain_steps : Setting → (Term → List Value) → ℕ → Element → State → List State
plain_steps s choices n (Terminal t) state =
    if matches_terminal s t state.place then placed (state.place + 1) state.list (state.binds ∷ []) else []
plain_steps s choices n (Preterminal c) state =
    placed (state.place + 1) state.list (read_all c state.binds (readings_at s state.place))
plain_steps s choices n (Sub c) state = []
plain_steps s choices n (Position x) state =
    placed state.place state.list (restricted (Var x) (Pos state.place ∷ []) (state.binds ∷ []))
plain_steps s choices n Opener state = placed state.place (state.list ++ entry.Opener ∷ []) (state.binds ∷ [])
plain_steps s choices n (Forward c) state = introducing s choices n c false state
plain_steps s choices n (Strong c) state = introducing s choices n c true state
plain_steps s choices n (Back positive negative) state =
    placed state.place state.list (refer positive negative state.list
    (closing_patterns choices negative (closing_patterns choices positive (state.binds ∷ []))))
plain_steps s choices n (NoBack patterns) state =
    placed state.place state.list (refer_none patterns state.list (closing_patterns choices patterns (state.binds ∷ [])))

-- the states after a category, by the ends of its phrases
abbrev pub sub_step : Category → State → End → List State
sub_step c state e = placed e.place (state.list ++ e.tail) (meeting e.values c.feats (state.binds ∷ []))

abbrev pub sub_steps : Category → State → List End → List State
sub_steps c state ends = flat_map (sub_step c state) ends

-- the states at the start of a rule
abbrev pub starting : List (ℕ × Value) → List (ℕ × Term) → ℕ → List Entry → List State
starting known feats place list = placed place list (meeting known feats ([] ∷ []))

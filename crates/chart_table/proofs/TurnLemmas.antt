-- Turns of the loops over entries, ends and states.
use Rattle.std.proofs.Common.{◌≡◌, ℕ, ◌+◌, ◌-◌, ◌<◌, ◌≤◌, List, [], ◌∷◌, ◌++◌, length, take, drop, get_or, length-drop, Some, sym, ap, ◌∙◌, subst, arith}
use Rattle.std.specs.Prelude.{slice_get}
use Rattle.std.specs.List.{flat_map}
use Rattle.std.proofs.lemmas.Option.{slice_get-get_or, get_or_from_slice_get}
use Rattle.std.proofs.lemmas.List.{get_or-drop, take_all}
use Rattle.wiki_base.proofs.ListLaws.{take_get_or}
use Rattle.chart_table.proofs.OneOfLemmas.{one_of_slice}
use Rattle.codeco_terms.specs.declared.values.Value.{Value}
use Rattle.codeco_terms.specs.declared.values.Term.{Term}
use Rattle.derivation_trees.specs.Instances.{variables_of}
use Rattle.chart_table.specs.Branches.{closing}
use Rattle.chart_table.specs.declared.choices.Plan.{Plan}
use Rattle.chart_table.specs.Choices.{choices, choices_in, IsPlan}
use Rattle.chart_table.proofs.PlanLemmas.{choices_same}
use Rattle.codeco_terms.specs.declared.elements.Element.{Element}
use Rattle.codeco_terms.specs.declared.rules.Rule.{Rule}
use Rattle.scopes.specs.declared.entries.Entry.{Entry}
use Rattle.derivation_trees.specs.Settings.{Setting}
use Rattle.chart_table.specs.declared.states.State.{State}
use Rattle.chart_table.specs.declared.states.End.{End}
use Rattle.scopes.specs.AccessList.{referents}
use Rattle.chart_table.specs.Ends.{HasMore, HasFinished, finished, finished_one, as_terms, AreSteps, IsStep}
use Rattle.chart_table.proofs.OpenerLemmas.{referents-append}
use Rattle.chart_table.proofs.EndLemmas.{more_same, more_then, finished_more, steps_more}

-- one more entry from a place on
pub entries_turn : (list : List Entry) (first place : ℕ) (e : Entry) (entries new : List Entry) → first ≤ place → place < length list
    → slice_get list place ≡ Some e → entries ≡ take (place - first) (drop first list) → new ≡ entries ++ e ∷ []
    → new ≡ take ((place + 1) - first) (drop first list)
entries_turn list first place e entries new le lt at before more =
    let count : (place + 1) - first ≡ (place - first) + 1 = omega arith in
    let back : first + (place - first) ≡ place = omega arith in
    let below : place - first < length (drop first list) = omega (arith, length-drop first list) in
    let is : e ≡ get_or (drop first list) (place - first) e =
    sym (get_or-drop first list (place - first) e ∙ ap (λ n. get_or list n e) back ∙ get_or_from_slice_get list place e e at) in
    more ∙ ap (λ l. l ++ e ∷ []) before ∙ sym (ap (λ n. take n (drop first list)) count ∙ take_get_or (drop first list) (place - first) e below is)

-- one more entry that may be an opener
pub referents_turn : (list : List Entry) (place : ℕ) (e : Entry) (entries new : List Entry) → place < length list → slice_get list place ≡ Some e
    → entries ≡ referents (take place list) → new ≡ entries ++ referents (e ∷ []) → new ≡ referents (take (place + 1) list)
referents_turn list place e entries new lt at before more =
    more ∙ ap (λ l. l ++ referents (e ∷ [])) before
    ∙ sym (ap referents (take_get_or list place e lt (sym (get_or_from_slice_get list place e e at))) ∙ referents-append (take place list) (e ∷ []))

-- an end that is there already
pub end_here : (ends : List End) (i : ℕ) (x y : End) → i < length ends → y ≡ get_or ends i y → y ≡ x → HasMore ends ends (x ∷ [])
end_here ends i x y lt is same = more_same ends x y (one_of_slice ends i y (slice_get-get_or ends i y lt ∙ ap Some (sym is))) same

-- one more end
pub ends_turn : (first before after xs : List End) (i : ℕ) (x : End) → i < length xs → x ≡ get_or xs i x → HasMore first before (take i xs)
    → HasMore before after (x ∷ []) → HasMore first after (take (i + 1) xs)
ends_turn first before after xs i x lt is a b = subst (HasMore first after) (sym (take_get_or xs i x lt is)) (more_then first before after (take i xs) x a b)

-- the ends of one more state
pub finished_turn : (s : Setting) (rule : Rule) (start : List Entry) (states : List State) (i : ℕ) (state : State) (first before after : List End)
    → i < length states → state ≡ get_or states i state → HasFinished s rule start (take i states) first before
    → HasMore before after (finished s rule start state) → HasFinished s rule start (take (i + 1) states) first after
finished_turn s rule start states i state first before after lt is a b =
    subst (λ xs. HasFinished s rule start xs first after) (sym (take_get_or states i state lt is))
    (finished_more s rule start (take i states) state first before after a b)

-- the states after one more state
pub steps_turn : (s : Setting) (rule : Rule) (n : ℕ) (e : Element) (states : List State) (i : ℕ) (state : State) (before after : List State) → i < length states
    → state ≡ get_or states i state → AreSteps s rule n e (take i states) before → (news : List State) × (after ≡ before ++ news) × IsStep s rule n e state news
    → AreSteps s rule n e (take (i + 1) states) after
steps_turn s rule n e states i state before after lt is a b =
    subst (λ xs. AreSteps s rule n e xs after) (sym (take_get_or states i state lt is))
    (subst (AreSteps s rule n e (take i states ++ state ∷ [])) (sym b.1) (steps_more s rule n e (take i states) state before b.0 a b.2))

-- at the ends of the loops

pub more_done : (first after xs : List End) (i : ℕ) → length xs ≤ i → HasMore first after (take i xs) → HasMore first after xs
more_done first after xs i le h = subst (HasMore first after) (take_all i xs le) h

pub finished_done : (s : Setting) (rule : Rule) (start : List Entry) (states : List State) (i : ℕ) (first after : List End) → length states ≤ i
    → HasFinished s rule start (take i states) first after → HasFinished s rule start states first after
finished_done s rule start states i first after le h = subst (λ xs. HasFinished s rule start xs first after) (take_all i states le) h

pub steps_done : (s : Setting) (rule : Rule) (n : ℕ) (e : Element) (states news : List State) (i : ℕ) → length states ≤ i
    → AreSteps s rule n e (take i states) news → AreSteps s rule n e states news
steps_done s rule n e states news i le h = subst (λ xs. AreSteps s rule n e xs news) (take_all i states le) h

pub more_seen : (ends seen : List End) (x : End) → seen ≡ ends → HasMore seen seen (x ∷ []) → HasMore ends ends (x ∷ [])
more_seen ends seen x e h = subst (λ l. HasMore l l (x ∷ [])) e h

-- the ends of finished phrases, step by step
pub finished_is : (s : Setting) (rule : Rule) (before : List Entry) (state : State) (plan : Plan) (feats seen_feats : List (ℕ × Term))
    (one bounds seen_bounds : List (List (ℕ × Value))) → IsPlan s rule plan → feats ≡ as_terms plan.variables → seen_feats ≡ feats → one ≡ state.binds ∷ []
    → bounds ≡ closing (choices s plan.terms plan.places plan.own) seen_feats one → seen_bounds ≡ bounds
    → flat_map (finished_one s rule before state plan.variables) seen_bounds ≡ finished s rule before state
finished_is s rule before state plan feats seen_feats one bounds seen_bounds p f g a b d =
    ap (λ x. flat_map (finished_one s rule before state x) seen_bounds) p.variables
    ∙ ap (flat_map (finished_one s rule before state (variables_of s.grammar rule)))
    (d ∙ b ∙ ap (λ x. closing x seen_feats one) (choices_same s rule plan p) ∙ ap (λ x. closing (choices_in s rule) x one) (g ∙ f ∙ ap as_terms p.variables)
    ∙ ap (closing (choices_in s rule) (as_terms (variables_of s.grammar rule))) a)

-- Heads that are found feature by feature.
use Rattle.std.proofs.Common.{◌≡◌, ℕ, ◌+◌, ◌<◌, ◌≤◌, Some, None, List, [], ◌∷◌, ◌++◌, length, take, get_or, Option, sym, ap, ◌∙◌, subst, inl, inr, ◌⊎◌}
use Rattle.std.specs.Prelude.{is_some, true}
use Rattle.std.specs.List.{filter_map, cons_option}
use Rattle.std.proofs.lemmas.List.{take_more, take_all, map-append, append-nil}
use Rattle.std.proofs.lemmas.List.Elements.{filter_map-append}
use Rattle.codeco_terms.specs.declared.values.Value.{Value}
use Rattle.codeco_terms.specs.declared.values.Term.{Term}
use Rattle.codeco_terms.specs.declared.rules.Rule.{Rule}
use Rattle.derivation_trees.specs.Settings.{Setting}
use Rattle.derivation_trees.specs.Instances.{feats_under, term_value}
use Rattle.chart_table.specs.declared.states.Cut.{Cut}
use Rattle.chart_table.specs.declared.choices.Plan.{Plan}
use Rattle.chart_table.specs.Branches.{bound_term, chosen_at, chosen_for, closing, known_value}
use Rattle.chart_table.specs.Choices.{choices, choices_in, IsPlan}
use Rattle.chart_table.specs.Cuts.{HasHeads, IsOf, Settles}
use Rattle.chart_table.proofs.BranchLemmas.{Binds, either, any_left, any_right, any_append, Known, KnownAll, closing_to, closing_from}
use Rattle.chart_table.proofs.ChoiceLemmas.{chosen}
use Rattle.chart_table.proofs.PlanLemmas.{choices_same}
use Rattle.chart_table.proofs.HeadLemmas.{heads_alike, heads_then, settles_known, of_none}

-- one more of the values is that of its feature
pub under_more : (values : Binds) (bound : Binds) (feats : List (ℕ × Term)) (i : ℕ) (d : ℕ × Value) (e : ℕ × Term) → i < length values → i < length feats
    → take i values ≡ feats_under bound (take i feats) → get_or values i d ≡ ((get_or feats i e).0, term_value bound (get_or feats i e).1)
    → take (i + 1) values ≡ feats_under bound (take (i + 1) feats)
under_more values bound feats i d e lt below before same =
    take_more values i d lt ∙ ap (λ xs. xs ++ get_or values i d ∷ []) before ∙ ap (λ x. feats_under bound (take i feats) ++ x ∷ []) same
    ∙ sym (ap (feats_under bound) (take_more feats i e below) ∙ map-append (λ p. (p.0, term_value bound p.1)) (take i feats) (get_or feats i e ∷ []))

pub under_done : (values : Binds) (bound : Binds) (feats : List (ℕ × Term)) (i : ℕ) → length values ≤ i → length feats ≤ i
    → take i values ≡ feats_under bound (take i feats) → values ≡ feats_under bound feats
under_done values bound feats i le below h = sym (take_all i values le) ∙ h ∙ ap (feats_under bound) (take_all i feats below)

known_push : (feats : List (ℕ × Term)) (q : ℕ × Term) (b : Binds) → KnownAll feats b → Known b q.1 → KnownAll (feats ++ q ∷ []) b
known_push [] q b h k = (k, tt)
known_push (p ∷ feats) q b h k = (h.0, known_push feats q b h.1 k)

-- a term of which a value was found is known
pub known_is : (b : Binds) (term : Term) (o : Option Value) → o ≡ known_value b term → is_some o ≡ true → Known b term
known_is b term (Some value) e h = (value, sym e)
known_is b term None e h = absurd (cc)

-- one more of the features is known
pub known_more : (feats : List (ℕ × Term)) (b : Binds) (i : ℕ) (d : ℕ × Term) → i < length feats → KnownAll (take i feats) b → Known b (get_or feats i d).1
    → KnownAll (take (i + 1) feats) b
known_more feats b i d lt h k = subst (λ fs. KnownAll fs b) (sym (take_more feats i d lt)) (known_push (take i feats) (get_or feats i d) b h k)

pub known_done : (rule : Rule) (feats : List (ℕ × Term)) (b : Binds) (i : ℕ) → feats ≡ rule.head.feats → length feats ≤ i → KnownAll (take i feats) b
    → Settles rule b
known_done rule feats b i is le h = settles_known rule b (subst (λ fs. KnownAll fs b) (take_all i feats le ∙ is) h)

-- more assignments
of_then : (s : Setting) (rule : Rule) (number : ℕ) (bs cs : List Binds) (first before after : List Cut) → HasHeads s rule (IsOf number bs) first before
    → HasHeads s rule (IsOf number cs) before after → HasHeads s rule (IsOf number (bs ++ cs)) first after
of_then s rule number bs cs first before after one two =
    heads_alike s rule (λ j v. IsOf number bs j v ⊎ IsOf number cs j v) (IsOf number (bs ++ cs)) first after
    (λ j v k h. either (λ x. (x.0, any_left v bs cs x.1)) (λ x. (x.0, any_right v bs cs x.1)) h)
    (λ j v k h. either (λ x. inl (h.0, x)) (λ x. inr (h.0, x)) (any_append v bs cs h.1))
    (heads_then s rule (IsOf number bs) (IsOf number cs) first before after one two)

-- the assignments with one value more
with_more : (bound : Binds) (term : Term) (values : List Value) (i : ℕ) (d : Value) (o : Option Binds) → i < length values
    → o ≡ bound_term bound term (get_or values i d)
    → filter_map (bound_term bound term) (take (i + 1) values) ≡ filter_map (bound_term bound term) (take i values) ++ cons_option o []
with_more bound term values i d o lt is =
    ap (filter_map (bound_term bound term)) (take_more values i d lt) ∙ filter_map-append (bound_term bound term) (take i values) (get_or values i d ∷ [])
    ∙ ap (λ x. filter_map (bound_term bound term) (take i values) ++ cons_option x []) (sym is)

pub value_turn : (s : Setting) (rule : Rule) (number : ℕ) (bound : Binds) (term : Term) (values : List Value) (i : ℕ) (d : Value) (more : Option Binds)
    (first before after : List Cut) → i < length values → more ≡ bound_term bound term (get_or values i d)
    → HasHeads s rule (IsOf number (filter_map (bound_term bound term) (take i values))) first before
    → HasHeads s rule (IsOf number (cons_option more [])) before after
    → HasHeads s rule (IsOf number (filter_map (bound_term bound term) (take (i + 1) values))) first after
value_turn s rule number bound term values i d more first before after lt is one two =
    subst (λ bs. HasHeads s rule (IsOf number bs) first after) (sym (with_more bound term values i d more lt is))
    (of_then s rule number (filter_map (bound_term bound term) (take i values)) (cons_option more []) first before after one two)

-- no values yet
pub values_none : (s : Setting) (rule : Rule) (number : ℕ) (bound : Binds) (term : Term) (values : List Value) (cuts : List Cut)
    → HasHeads s rule (IsOf number (filter_map (bound_term bound term) (take 0 values))) cuts cuts
values_none s rule number bound term values cuts = of_none s rule number cuts

-- with all choices for a term that isn't known
pub values_done : (s : Setting) (rule : Rule) (plan : Plan) (number : ℕ) (bound : Binds) (feat : ℕ × Term) (values seen : List Value) (i : ℕ)
    (first after : List Cut) → IsPlan s rule plan → known_value bound feat.1 ≡ None → values ≡ choices s plan.terms plan.places plan.own feat.1
    → seen ≡ values → length seen ≤ i
    → HasHeads s rule (IsOf number (filter_map (bound_term bound feat.1) (take i seen))) first after → HasHeads s rule (IsOf number (bound ∷ [])) first after
values_done s rule plan number bound feat values seen i first after p unknown e same le h =
    let all : values ≡ choices_in s rule feat.1 = e ∙ ap (λ c. c feat.1) (choices_same s rule plan p) in
    let closed : filter_map (bound_term bound feat.1) (take i seen) ≡ closing (choices_in s rule) (feat ∷ []) (bound ∷ []) =
    ap (filter_map (bound_term bound feat.1)) (take_all i seen le ∙ same ∙ all)
    ∙ sym (append-nil (chosen_for feat.1 (choices_in s rule feat.1) bound) ∙ ap (chosen_at feat.1 (choices_in s rule feat.1) bound) unknown) in
    heads_alike s rule (IsOf number (closing (choices_in s rule) (feat ∷ []) (bound ∷ []))) (IsOf number (bound ∷ [])) first after
    (λ j v k x. (x.0, closing_from (choices_in s rule) v (feat ∷ []) (bound ∷ []) x.1))
    (λ j v k x. (x.0, closing_to (choices_in s rule) v (feat ∷ []) (bound ∷ []) (chosen s rule v k) x.1))
    (subst (λ xs. HasHeads s rule (IsOf number xs) first after) closed h)

-- The instances of a rule that lead somewhere are found.
use Rattle.std.proofs.Common.{◌≡◌, ℕ, zero, suc, ◌+◌, ◌-◌, ◌<◌, ◌≤◌, List, [], ◌∷◌, ◌++◌, true, map, length, take, drop, get_or, sym, ap, ◌∙◌, subst, arith, inl, inr}
use Rattle.std.proofs.lemmas.List.{take_all, map_push}
use Rattle.wiki_base.proofs.ListLaws.{take_get_or}
use Rattle.chart_table.proofs.OneOfLemmas.{one_left, one_right}
use Rattle.codeco_terms.specs.declared.values.Term.{Term}
use Rattle.codeco_terms.specs.declared.rules.Rule.{Rule}
use Rattle.scopes.specs.declared.entries.Entry.{Entry}
use Rattle.derivation_trees.specs.Settings.{Setting}
use Rattle.derivation_trees.specs.Instances.{is_instance, own_values, variables_of}
use Rattle.chart_table.specs.declared.states.State.{State}
use Rattle.chart_table.specs.Branches.{OneOf, Extends, AnyExtends, closing}
use Rattle.chart_table.specs.declared.choices.Plan.{Plan}
use Rattle.chart_table.specs.Choices.{choices, choices_in, IsPlan}
use Rattle.chart_table.proofs.PlanLemmas.{choices_same}
use Rattle.chart_table.specs.Steps.{starting}
use Rattle.chart_table.specs.Ends.{as_terms, values_of_all, CoversPath}
use Rattle.chart_table.specs.Cuts.{AreAllAfter}
use Rattle.chart_table.specs.Instances.{HasInstances, HasMore, HasStates, closed_values}
use Rattle.chart_table.proofs.BranchLemmas.{Binds, Each, KnownAll, closing_known, closing_to}
use Rattle.chart_table.proofs.ChoiceLemmas.{chosen}
use Rattle.chart_table.proofs.EndLemmas.{all_known, covers_one, starts_to}
use Rattle.chart_table.proofs.HeadLemmas.{all_after_last}

-- lists of values

one_at : (xs : List Binds) (i : ℕ) (x d : Binds) → i < length xs → x ≡ get_or xs i d → OneOf xs x
one_at [] i x d lt is = absurd (omega arith)
one_at (y ∷ ys) zero x d lt is = inl (sym is)
one_at (y ∷ ys) (suc i) x d lt is = inr (one_at ys i x d (omega arith) is)

pub seen_more : (bounds : List Binds) (i : ℕ) (x y : Binds) → i < length bounds → y ≡ get_or bounds i y → y ≡ x → HasMore bounds bounds (x ∷ [])
seen_more bounds i x y lt is same = record {
  kept = λ v o. o;
  new = λ v o. elim o [ inl e ↦ subst (OneOf bounds) (same ∙ e) (one_at bounds i y y lt is) | inr n ↦ absurd n ];
}

pub push_more : (before after : List Binds) (x : Binds) → after ≡ before ++ x ∷ [] → HasMore before after (x ∷ [])
push_more before after x e = record {
  kept = λ v o. subst (λ l. OneOf l v) (sym e) (one_left v before (x ∷ []) o);
  new = λ v o. subst (λ l. OneOf l v) (sym e) (one_right v before (x ∷ []) o);
}

pub seen_same : (bounds seen : List Binds) (x y : Binds) → seen ≡ bounds → y ≡ x → HasMore seen seen (y ∷ []) → HasMore bounds bounds (x ∷ [])
seen_same bounds seen x y e f h = subst (λ l. HasMore l l (x ∷ [])) e (subst (λ z. HasMore seen seen (z ∷ [])) f h)

pub none_more : (before : List Binds) → HasMore before before []
none_more before = record { kept = λ v o. o; new = λ v o. absurd o }

split_one : (xs : List Binds) (x v : Binds) (after : List Binds) → OneOf (xs ++ x ∷ []) v → (OneOf xs v → OneOf after v) → (x ≡ v → OneOf after v)
    → OneOf after v
split_one [] x v after (inl e) f g = g e
split_one [] x v after (inr h) f g = absurd h
split_one (y ∷ ys) x v after (inl e) f g = f (inl e)
split_one (y ∷ ys) x v after (inr h) f g = split_one ys x v after h (λ o. f (inr o)) g

pub bounds_turn : (f : Binds → Binds) (xs : List Binds) (i : ℕ) (x y : Binds) (first before after : List Binds) → i < length xs → x ≡ get_or xs i x → y ≡ f x
    → HasMore first before (map f (take i xs)) → HasMore before after (y ∷ []) → HasMore first after (map f (take (i + 1) xs))
bounds_turn f xs i x y first before after lt is made a b = record {
  kept = λ v o. b.kept v (a.kept v o);
  new = λ v o.
      split_one (map f (take i xs)) (f x) v after (subst (λ l. OneOf l v) (ap (map f) (take_get_or xs i x lt is) ∙ map_push f (take i xs) x) o)
      (λ m. b.kept v (a.new v m)) (λ e. b.new v (inl (made ∙ e)));
}

pub bounds_done : (f : Binds → Binds) (xs : List Binds) (i : ℕ) (first after : List Binds) → length xs ≤ i → HasMore first after (map f (take i xs))
    → HasMore first after (map f xs)
bounds_done f xs i first after le h = subst (λ l. HasMore first after (map f l)) (take_all i xs le) h

-- states

pub none_states : (s : Setting) (rule : Rule) (before : List Binds) → HasStates s rule [] before before
none_states s rule before = record { kept = λ v o. o; new = λ state v o m. absurd o }

state_of : (xs : List State) (x y : State) (v : Binds) (after : List Binds) → OneOf (xs ++ x ∷ []) y → (OneOf xs y → OneOf after v) → (x ≡ y → OneOf after v)
    → OneOf after v
state_of [] x y v after (inl e) f g = g e
state_of [] x y v after (inr h) f g = absurd h
state_of (z ∷ zs) x y v after (inl e) f g = f (inl e)
state_of (z ∷ zs) x y v after (inr h) f g = state_of zs x y v after h (λ o. f (inr o)) g

pub states_turn : (s : Setting) (rule : Rule) (states : List State) (i : ℕ) (state : State) (first before after : List Binds) → i < length states
    → state ≡ get_or states i state → HasStates s rule (take i states) first before → HasMore before after (closed_values s rule state)
    → HasStates s rule (take (i + 1) states) first after
states_turn s rule states i state first before after lt is a b = record {
  kept = λ v o. b.kept v (a.kept v o);
  new = λ x v o m.
      state_of (take i states) state x v after (subst (λ l. OneOf l x) (take_get_or states i state lt is) o) (λ old. b.kept v (a.new x v old m))
      (λ e. b.new v (subst (λ z. OneOf (closed_values s rule z) v) (sym e) m));
}

pub states_done : (s : Setting) (rule : Rule) (states : List State) (i : ℕ) (first after : List Binds) → length states ≤ i
    → HasStates s rule (take i states) first after → HasStates s rule states first after
states_done s rule states i first after le h = subst (λ l. HasStates s rule l first after) (take_all i states le) h

-- the values of all variables in a state, as the program makes them
pub closed_is : (s : Setting) (rule : Rule) (state : State) (plan : Plan) (numbers : List ℕ) (feats seen_feats : List (ℕ × Term))
    (one bounds seen_bounds : List Binds) → IsPlan s rule plan → numbers ≡ plan.variables → feats ≡ as_terms plan.variables → seen_feats ≡ feats
    → one ≡ state.binds ∷ [] → bounds ≡ closing (choices s plan.terms plan.places plan.own) seen_feats one → seen_bounds ≡ bounds
    → map (λ b. values_of_all b numbers) seen_bounds ≡ closed_values s rule state
closed_is s rule state plan numbers feats seen_feats one bounds seen_bounds p n f g a b d =
    ap (λ x. map (λ b. values_of_all b x) seen_bounds) (n ∙ p.variables)
    ∙ ap (map (λ b. values_of_all b (variables_of s.grammar rule)))
    (d ∙ b ∙ ap (λ x. closing x seen_feats one) (choices_same s rule plan p) ∙ ap (λ x. closing (choices_in s rule) x one) (g ∙ f ∙ ap as_terms p.variables)
    ∙ ap (closing (choices_in s rule) (as_terms (variables_of s.grammar rule))) a)

-- an instance that extends a state's assignment is one of its values
values_to : (s : Setting) (rule : Rule) (v : Binds) (bs : List Binds) → is_instance s rule v ≡ true
    → Each (KnownAll (as_terms (variables_of s.grammar rule))) bs → AnyExtends v bs → OneOf (map (λ b. values_of_all b (variables_of s.grammar rule)) bs) v
values_to s rule v [] i known h = absurd h
values_to s rule v (b ∷ bs) i known (inl h) = inl (all_known s rule v b i h known.0)
values_to s rule v (b ∷ bs) i known (inr h) = inr (values_to s rule v bs i known.1 h)

closed_has : (s : Setting) (rule : Rule) (state : State) (v : Binds) → is_instance s rule v ≡ true → Extends v state.binds
    → OneOf (closed_values s rule state) v
closed_has s rule state v i h =
    let terms = as_terms (variables_of s.grammar rule) in
    values_to s rule v (closing (choices_in s rule) terms (state.binds ∷ [])) i (closing_known (choices_in s rule) terms (state.binds ∷ []))
    (closing_to (choices_in s rule) v terms (state.binds ∷ []) (chosen s rule v i) (inl h))

-- each instance that leads somewhere extends the assignment of a state after the last element
pub instances_found : (s : Setting) (rule : Rule) (known : Binds) (place : ℕ) (list : List Entry) (starts states : List State) (first found : List Binds)
    → starts ≡ starting known rule.head.feats place list → AreAllAfter s rule starts states → HasStates s rule states first found
    → HasInstances s rule known (record { place = place; list = list }) found
instances_found s rule known place list starts states first found from after has v end instance agrees path =
    let last = all_after_last s rule starts states after in
    let led = last.1.forth v end instance
    (subst (λ x. CoversPath s v (own_values rule v) rule.body end x) (sym from) (starts_to s rule v known place list end agrees path)) in
    let one = covers_one s rule v (drop (last.0 - 16) (own_values rule v)) end states led in
    has.new one.0 v one.1 (closed_has s rule one.0 v instance one.2)

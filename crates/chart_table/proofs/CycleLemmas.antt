-- What each call of the table's cycle owes, over plain variables.
use Rattle.std.proofs.Common.{◌≡◌, ℕ, ◌+◌, ◌<◌, ◌≤◌, List, [], ◌∷◌, ◌++◌, Bool, true, false, nat_eq, length, get_or, Some, None, refl, sym, ap, ◌∙◌, subst, arith}
use Rattle.std.specs.Prelude.{slice_get}
use Rattle.std.specs.List.{flat_map}
use Rattle.std.proofs.lemmas.Bool.Decides.{nat_tests}
use Rattle.std.proofs.lemmas.Option.{slice_get-get_or}
use Rattle.codeco_terms.specs.declared.values.Value.{Value}
use Rattle.codeco_terms.specs.declared.values.Term.{Term}
use Rattle.codeco_terms.specs.declared.categories.Category.{Category}
use Rattle.codeco_terms.specs.declared.elements.Element.{Element}
use Rattle.codeco_terms.specs.declared.elements.Element.TheVariants.{Terminal, Preterminal, Sub, Position, Opener, Forward, Strong, Back, NoBack}
use Rattle.codeco_terms.specs.declared.rules.Rule.{Rule}
use Rattle.codeco_checked.specs.Occurrences.{positions}
use Rattle.scopes.specs.declared.entries.Entry.{Entry}
use Rattle.derivation_trees.specs.Settings.{Setting}
use Rattle.derivation_trees.specs.Instances.{own_features, rule_own_features}
use Rattle.derivation_trees.specs.Derives.{At}
use Rattle.derivation_trees.specs.Stands.{is_sub}
use Rattle.derivation_trees.specs.Partial.{sub_of}
use Rattle.chart_table.specs.declared.states.State.{State}
use Rattle.chart_table.specs.declared.states.End.{End}
use Rattle.chart_table.specs.declared.table.Row.{Row}
use Rattle.scopes.specs.AccessList.{referents}
use Rattle.chart_table.specs.Branches.{known_features}
use Rattle.chart_table.specs.Choices.{choices, choices_in, terms_of}
use Rattle.chart_table.specs.Steps.{plain_steps, sub_steps, starting}
use Rattle.chart_table.specs.Ends.{IsEnds, HasFinished, HasEndsOfRule, HasEndsIfNamed, AreSteps, IsStep}
use Rattle.chart_table.proofs.EndsUpTo.{HasEndsUpTo, AreLast}
use Rattle.chart_table.specs.declared.states.Cut.{Cut}
use Rattle.chart_table.specs.Aims.{Aims}
use Rattle.chart_table.specs.Cuts.{AreCuts, AreAfter, AreAllAfter, HasHeads, CutBefore, Among, Halts, Enters, OneBefore, MeetsCut}
use Rattle.chart_table.proofs.CutsUpTo.{HasCutsUpTo}
use Rattle.chart_table.specs.Table.{row_at, IsRow, AreRows, HasRow, IsFound}
use Rattle.chart_table.proofs.EndLemmas.{stripped, rule_ends, steps_none, up_to_none, up_to_skip, up_to_more, ends_up_to, plain_step, category_step}
use Rattle.chart_table.proofs.TableLemmas.{new_row, rows_more, found_row, RowAt}
use Rattle.chart_table.proofs.CutLemmas.{after_more, cuts_up_to}
use Rattle.chart_table.proofs.HeadLemmas.{enters_heads, cut_before_more}

slice_here : {X : Type 0} (xs ys : List X) (i : ℕ) (x : X) → xs ≡ ys → i < length xs → x ≡ get_or xs i x → slice_get ys i ≡ Some x
slice_here xs ys i x e lt is = ap (λ l. slice_get l i) (sym e) ∙ slice_get-get_or xs i x lt ∙ ap Some (sym is)

pub rule_skipped : (s : Setting) (name : ℕ) (known : List (ℕ × Value)) (at : At) (rules : List Rule) (i : ℕ) (rule : Rule) (ends : List End)
    → rules ≡ s.grammar.rules → i < length rules → rule ≡ get_or rules i rule → (rule.head.name ≡ name → ⊥) → HasEndsUpTo s name known at i ends
    → HasEndsUpTo s name known at (i + 1) ends
rule_skipped s name known at rules i rule ends e lt is other h =
    up_to_skip s name known at i rule ends (slice_here rules s.grammar.rules i rule e lt is) other h

pub rule_added : (s : Setting) (name : ℕ) (known : List (ℕ × Value)) (at : At) (rules : List Rule) (i : ℕ) (rule : Rule) (ends more : List End)
    → rules ≡ s.grammar.rules → i < length rules → rule ≡ get_or rules i rule → rule.head.name ≡ name → HasEndsUpTo s name known at i ends
    → HasEndsOfRule s rule known at ends more → HasEndsUpTo s name known at (i + 1) more
rule_added s name known at rules i rule ends more e lt is named h has =
    up_to_more s name known at i rule ends more (slice_here rules s.grammar.rules i rule e lt is) named h has

pub rule_turn : (s : Setting) (name : ℕ) (known : List (ℕ × Value)) (at : At) (rules : List Rule) (i : ℕ) (rule : Rule) (ends more : List End)
    → rules ≡ s.grammar.rules → i < length rules → rule ≡ get_or rules i rule → HasEndsUpTo s name known at i ends
    → HasEndsIfNamed s rule name known at ends more → HasEndsUpTo s name known at (i + 1) more
rule_turn s name known at rules i rule ends more e lt is h has = by_name (nat_eq rule.head.name name) refl
  where
    by_name : (b : Bool) → nat_eq rule.head.name name ≡ b → HasEndsUpTo s name known at (i + 1) more
    by_name true n =
        let named : rule.head.name ≡ name = grind (arith, nat_tests) in
        rule_added s name known at rules i rule ends more e lt is named h (has.named named)
    by_name false n =
        let other : rule.head.name ≡ name → ⊥ =
        λ same. (let t : nat_eq rule.head.name name ≡ true = grind (arith, nat_tests) in let c : true ≡ false = sym t ∙ n in absurd (cc)) in
        subst (HasEndsUpTo s name known at (i + 1)) (sym (has.other other)) (rule_skipped s name known at rules i rule ends e lt is other h)

pub named_ends : (s : Setting) (rule : Rule) (name : ℕ) (known : List (ℕ × Value)) (at : At) (before after : List End) → rule.head.name ≡ name
    → HasEndsOfRule s rule known at before after → HasEndsIfNamed s rule name known at before after
named_ends s rule name known at before after named has = record { named = λ _. has; other = λ other. absurd (other named) }

pub other_ends : (s : Setting) (rule : Rule) (name : ℕ) (known : List (ℕ × Value)) (at : At) (ends : List End) → (rule.head.name ≡ name → ⊥)
    → HasEndsIfNamed s rule name known at ends ends
other_ends s rule name known at ends other = record { named = λ named. absurd (other named); other = λ _. refl }

pub start_rules : (s : Setting) (name : ℕ) (known : List (ℕ × Value)) (at : At) (ends : List End) → ends ≡ [] → HasEndsUpTo s name known at 0 ends
start_rules s name known at ends e = subst (HasEndsUpTo s name known at 0) (sym e) (up_to_none s name known at)

pub rules_done : (s : Setting) (name : ℕ) (known : List (ℕ × Value)) (at : At) (rules : List Rule) (i : ℕ) (ends : List End) → rules ≡ s.grammar.rules
    → length rules ≤ i → i ≤ length rules → HasEndsUpTo s name known at i ends → IsEnds s name known at ends
rules_done s name known at rules i ends e le ge h =
    let n : i ≡ length s.grammar.rules = let same : i ≡ length rules = omega arith in same ∙ ap length e in
    ends_up_to s name known at ends (subst (λ k. HasEndsUpTo s name known at k ends) n h)

pub rule_pushed : (s : Setting) (rule : Rule) (known : List (ℕ × Value)) (place : ℕ) (list : List Entry) (starts states : List State) (before after : List End)
    → starts ≡ starting known rule.head.feats place list → AreLast s rule starts states → HasFinished s rule list states before after
    → HasEndsOfRule s rule known (record { place = place; list = list }) before after
rule_pushed s rule known place list starts states before after e last finished_in =
    rule_ends s rule known place list states before after (subst (λ x. AreLast s rule x states) e last) finished_in

pub after_turn : (s : Setting) (rule : Rule) (starts : List State) (n m i count : ℕ) (body : List Element) (e : Element) (states seen news : List State)
    → body ≡ rule.body → seen ≡ states → i < length body → e ≡ get_or body i e → AreAfter s rule starts n i states → AreSteps s rule n e seen news
    → count ≡ length (own_features s.grammar e) → m ≡ n + count → AreAfter s rule starts m (i + 1) news
after_turn s rule starts n m i count body e states seen news b r lt is after steps own next =
    let below : i < length rule.body = omega (arith, ap length b) in
    after_more s rule starts n m i e states news below (is ∙ ap (λ l. get_or l i e) b) after (subst (λ l. AreSteps s rule n e l news) r steps)
    (next ∙ ap (λ k. n + k) own)

pub after_done : (s : Setting) (rule : Rule) (starts : List State) (n i : ℕ) (body : List Element) (states : List State) → body ≡ rule.body → length body ≤ i
    → i ≤ length body → AreAfter s rule starts n i states → AreAllAfter s rule starts states
after_done s rule starts n i body states b le ge after =
    let same : i ≡ length rule.body = omega (arith, ap length b) in (n, subst (λ k. AreAfter s rule starts n k states) same after)

pub plain_state : (s : Setting) (rule : Rule) (terms : List (ℕ × Term)) (places own : List ℕ) (n : ℕ) (e : Element) (state : State) (before after : List State)
    → terms ≡ terms_of rule → places ≡ flat_map positions rule.body → own ≡ rule_own_features s.grammar rule → is_sub e ≡ false
    → after ≡ before ++ plain_steps s (choices s terms places own) n e state → (news : List State) × (after ≡ before ++ news) × IsStep s rule n e state news
plain_state s rule terms places own n e state before after t p o plain h =
    let same : plain_steps s (choices s terms places own) n e state ≡ plain_steps s (choices_in s rule) n e state =
    ap (λ x. plain_steps s (choices s x places own) n e state) t ∙ ap (λ x. plain_steps s (choices s (terms_of rule) x own) n e state) p
    ∙ ap (λ x. plain_steps s (choices s (terms_of rule) (flat_map positions rule.body) x) n e state) o in
    (plain_steps s (choices_in s rule) n e state, h ∙ ap (λ x. before ++ x) same, plain_step s rule n e state plain)

pub category_state : (s : Setting) (aim : Aims) (rule : Rule) (n : ℕ) (c : Category) (state : State) (rows : List Row) (number : ℕ) (before after : List State)
    → HasRow s aim rows number c.name (known_features state.binds c.feats) (stripped state)
    → ((row : Row) → slice_get rows number ≡ Some row → after ≡ before ++ sub_steps c state row.ends)
    → (news : List State) × (after ≡ before ++ news) × IsStep s rule n (Sub c) state news
category_state s aim rule n c state rows number before after has h =
    (sub_steps c state has.row.ends, h has.row has.is, category_step s rule n c state has.row.ends has.ends)

pub step_same : (s : Setting) (rule : Rule) (n : ℕ) (e other : Element) (state : State) (before after : List State) → e ≡ other
    → (news : List State) × (after ≡ before ++ news) × IsStep s rule n other state news
    → (news : List State) × (after ≡ before ++ news) × IsStep s rule n e state news
step_same s rule n e other state before after is h = (h.0, h.1, subst (λ x. IsStep s rule n x state h.0) (sym is) h.2)

-- a row that is there, by lists that were lent
pub row_found : (s : Setting) (aim : Aims) (rows seen : List Row) (number name : ℕ) (known seen_known : List (ℕ × Value)) (place : ℕ)
    (list seen_list : List Entry) → seen ≡ rows → seen_known ≡ known → seen_list ≡ list → AreRows s aim rows
    → IsFound seen number name seen_known place seen_list → HasRow s aim rows number name known (record { place = place; list = list })
row_found s aim rows seen number name known seen_known place list seen_list r k l rs found =
    found_row s aim rows number name known place list rs
    (subst (λ x. IsFound x number name known place list) r
    (subst (λ x. IsFound seen number name x place list) k (subst (λ x. IsFound seen number name seen_known place x) l found)))

-- a new row, by the lists that its ends were found from
row_is : (s : Setting) (aim : Aims) (row : Row) (known : List (ℕ × Value)) (start : List Entry) → known ≡ row.known → start ≡ row.list
    → RowAt s aim row row.name known row.place start → IsRow s aim row
row_is s aim row known start k l is =
    let at : RowAt s aim row row.name row.known row.place row.list =
    subst (λ x. RowAt s aim row row.name row.known row.place x) l (subst (λ x. RowAt s aim row row.name x row.place start) k is) in
    record { ends = at.0; cuts = at.1 }

pub row_returned : (s : Setting) (aim : Aims) (rows after : List Row) (row : Row) (number : ℕ) (known : List (ℕ × Value)) (start : List Entry)
    → after ≡ rows ++ row ∷ [] → number ≡ length rows → known ≡ row.known → start ≡ row.list
    → IsEnds s row.name known (record { place = row.place; list = start }) row.ends
    → AreCuts s aim row.name known (record { place = row.place; list = start }) row.cuts → HasRow s aim after number row.name row.known (row_at row)
row_returned s aim rows after row number known start e n k l ends cuts =
    subst (λ x. HasRow s aim x number row.name row.known (row_at row)) (sym e)
    (subst (λ m. HasRow s aim (rows ++ row ∷ []) m row.name row.known (row_at row)) (sym n)
    (new_row s aim rows row (row_is s aim row known start k l (ends, cuts))))

pub rows_returned : (s : Setting) (aim : Aims) (rows after : List Row) (row : Row) (known : List (ℕ × Value)) (start : List Entry) → after ≡ rows ++ row ∷ []
    → known ≡ row.known → start ≡ row.list → AreRows s aim rows → IsEnds s row.name known (record { place = row.place; list = start }) row.ends
    → AreCuts s aim row.name known (record { place = row.place; list = start }) row.cuts → AreRows s aim after
rows_returned s aim rows after row known start e k l rs ends cuts =
    subst (AreRows s aim) (sym e) (rows_more s aim rows row rs (row_is s aim row known start k l (ends, cuts)))

pub finished_same : (s : Setting) (rule : Rule) (start : List Entry) (seen states : List State) (before after : List End) → seen ≡ states
    → HasFinished s rule start seen before after → HasFinished s rule start states before after
finished_same s rule start seen states before after e h = subst (λ x. HasFinished s rule start x before after) e h

pub start_steps : (s : Setting) (rule : Rule) (n : ℕ) (e : Element) (news : List State) → news ≡ [] → AreSteps s rule n e [] news
start_steps s rule n e news is = subst (AreSteps s rule n e []) (sym is) (steps_none s rule n e)

-- the states after a category, by a row that was looked up or made
pub category_returned : (s : Setting) (aim : Aims) (rule : Rule) (n : ℕ) (c : Category) (state : State) (rows seen : List Row) (number : ℕ)
    (known : List (ℕ × Value)) (list : List Entry) (before after : List State) → seen ≡ rows → known ≡ known_features state.binds c.feats
    → list ≡ referents state.list → HasRow s aim rows number c.name known (record { place = state.place; list = list })
    → ((row : Row) → slice_get seen number ≡ Some row → after ≡ before ++ sub_steps c state row.ends)
    → (news : List State) × (after ≡ before ++ news) × IsStep s rule n (Sub c) state news
category_returned s aim rule n c state rows seen number known list before after r k l has h =
    category_state s aim rule n c state rows number before after
    (subst (λ x. HasRow s aim rows number c.name x (stripped state)) k
    (subst (λ x. HasRow s aim rows number c.name known (record { place = state.place; list = x })) l has))
    (λ row e. h row (ap (λ x. slice_get x number) r ∙ e))

-- what is cut off within a category, by a row that was looked up or made
pub category_cut : (s : Setting) (aim : Aims) (rule : Rule) (c : Category) (state : State) (rows seen : List Row) (number : ℕ) (known : List (ℕ × Value))
    (list : List Entry) (before after : List Cut) → seen ≡ rows → known ≡ known_features state.binds c.feats → list ≡ referents state.list
    → HasRow s aim rows number c.name known (record { place = state.place; list = list })
    → ((row : Row) → slice_get seen number ≡ Some row → HasHeads s rule (OneBefore row.cuts (MeetsCut c state.binds) (length row.cuts)) before after)
    → HasHeads s rule (λ j v. Enters s aim (Sub c) j v state) before after
category_cut s aim rule c state rows seen number known list before after r k l has h =
    let row = subst (λ x. HasRow s aim rows number c.name x (stripped state)) k
    (subst (λ x. HasRow s aim rows number c.name known (record { place = state.place; list = x })) l has) in
    enters_heads s aim rule c state row.row.cuts before after row.cuts (h row.row (ap (λ x. slice_get x number) r ∙ row.is))

pub cuts_done : (s : Setting) (aim : Aims) (name : ℕ) (known : List (ℕ × Value)) (at : At) (rules : List Rule) (i : ℕ) (cuts : List Cut)
    → rules ≡ s.grammar.rules → length rules ≤ i → i ≤ length rules → HasCutsUpTo s aim name known at i cuts → AreCuts s aim name known at cuts
cuts_done s aim name known at rules i cuts e le ge h =
    let n : i ≡ length s.grammar.rules = let same : i ≡ length rules = omega arith in same ∙ ap length e in
    cuts_up_to s aim name known at cuts (subst (λ k. HasCutsUpTo s aim name known at k cuts) n h)

pub heads_same : (s : Setting) (aim : Aims) (rule : Rule) (e other : Element) (state : State) (before after : List Cut) → e ≡ other
    → HasHeads s rule (λ j v. Enters s aim other j v state) before after → HasHeads s rule (λ j v. Enters s aim e j v state) before after
heads_same s aim rule e other state before after is h = subst (λ x. HasHeads s rule (λ j v. Enters s aim x j v state) before after) (sym is) h

-- an element that is no category
pub not_category : (e : Element) → is_sub e ≡ false → sub_of e ≡ None
not_category (Terminal t) h = refl
not_category (Preterminal c) h = refl
not_category (Sub c) h = absurd (cc)
not_category (Position x) h = refl
not_category Opener h = refl
not_category (Forward c) h = refl
not_category (Strong c) h = refl
not_category (Back positive negative) h = refl
not_category (NoBack patterns) h = refl

pub cut_turn : (s : Setting) (aim : Aims) (rule : Rule) (starts : List State) (n i : ℕ) (body : List Element) (e : Element) (states seen again : List State)
    (first before middle after : List Cut) → body ≡ rule.body → seen ≡ states → again ≡ states → i < length body → e ≡ get_or body i e
    → AreAfter s rule starts n i states → HasHeads s rule (CutBefore s aim rule starts i) first before
    → HasHeads s rule (λ j v. Among (Halts aim (Some e) j v) seen) before middle → HasHeads s rule (λ j v. Among (Enters s aim e j v) again) middle after
    → HasHeads s rule (CutBefore s aim rule starts (i + 1)) first after
cut_turn s aim rule starts n i body e states seen again first before middle after b r q lt is are x y z =
    let below : i < length rule.body = omega (arith, ap length b) in
    cut_before_more s aim rule starts n i e states first before middle after below (is ∙ ap (λ l. get_or l i e) b) are x
    (subst (λ l. HasHeads s rule (λ j v. Among (Halts aim (Some e) j v) l) before middle) r y)
    (subst (λ l. HasHeads s rule (λ j v. Among (Enters s aim e j v) l) middle after) q z)

pub cut_done : (s : Setting) (aim : Aims) (rule : Rule) (starts : List State) (i : ℕ) (body : List Element) (before after : List Cut) → body ≡ rule.body
    → length body ≤ i → i ≤ length body → HasHeads s rule (CutBefore s aim rule starts i) before after
    → HasHeads s rule (CutBefore s aim rule starts (length rule.body)) before after
cut_done s aim rule starts i body before after b le ge h =
    let same : i ≡ length rule.body = omega (arith, ap length b) in subst (λ k. HasHeads s rule (CutBefore s aim rule starts k) before after) same h

-- What is cut off in the states of a rule, and in all rules.
use Rattle.std.proofs.Common.{◌≡◌, ℕ, suc, zero, ◌+◌, ◌-◌, ◌<◌, ◌≤◌, get_or, List, [], ◌∷◌, ◌++◌, Bool, true, false, length, take, drop, Option, Some, None, refl, sym, ap, ◌∙◌, subst, arith, ◌⊎◌, inl, inr, nat_lt, nat_eq, IsTrue, ◌↔◌}
use Rattle.std.specs.Prelude.{◌==◌, if◌then◌else◌, not, option_and_then, slice_get}
use Rattle.std.specs.List.{list_all}
use Rattle.std.proofs.lemmas.Bool.Decides.{nat_tests}
use Rattle.std.proofs.lemmas.Option.{same_Some, slice_get-get_or, slice_get_within, slice_get_past}
use Rattle.std.proofs.lemmas.List.{take_more, take_all}
use Rattle.std.proofs.lemmas.Bool.{and_from}
use Rattle.wiki_base.proofs.NumberLaws.{eqb_refl}
use Rattle.chart_table.proofs.OneOfLemmas.{one_front, one_last, one_of_slice, one_left}
use Rattle.codeco_terms.specs.declared.categories.Category.{Category}
use Rattle.codeco_terms.specs.declared.elements.Element.{Element}
use Rattle.codeco_terms.specs.declared.elements.Element.TheVariants.{Terminal, Preterminal, Sub, Position, Opener, Forward, Strong, Back, NoBack}
use Rattle.codeco_terms.specs.declared.categories.Ground.{Ground}
use Rattle.codeco_terms.specs.declared.values.Value.{Value}
use Rattle.codeco_terms.specs.declared.values.Term.{Term}
use Rattle.codeco_terms.specs.declared.rules.Rule.{Rule}
use Rattle.scopes.specs.declared.entries.Entry.{Entry}
use Rattle.derivation_trees.specs.Settings.{Setting}
use Rattle.derivation_trees.specs.Instances.{under, feats_under, own_values, is_instance}
use Rattle.derivation_trees.specs.Derives.{At, rule_with, same_where_both}
use Rattle.derivation_trees.specs.Partial.{sub_of}
use Rattle.chart_table.specs.declared.states.State.{State}
use Rattle.chart_table.specs.declared.states.Cut.{Cut}
use Rattle.chart_table.specs.declared.asks.Ask.{Ask}
use Rattle.chart_table.specs.declared.asks.Ask.TheVariants as ask
use Rattle.chart_table.specs.Leading.{Path}
use Rattle.scopes.specs.AccessList.{referents}
use Rattle.chart_table.specs.Branches.{OneOf, Extends, AnyExtends, known_features, meeting, closing}
use Rattle.chart_table.specs.declared.choices.Plan.{Plan}
use Rattle.chart_table.specs.Choices.{choices, choices_in, IsPlan}
use Rattle.chart_table.specs.Steps.{at_of, Covers, starting}
use Rattle.chart_table.specs.declared.states.End.{End}
use Rattle.chart_table.specs.Ends.{CoversPath, Agrees, finished, end_with, has_values}
use Rattle.chart_table.proofs.EndsUpTo.{AreLast}
use Rattle.chart_table.specs.Asks.{meets, takes_terminal, takes_reading}
use Rattle.chart_table.specs.Aims.{Aims}
use Rattle.chart_table.specs.Cuts.{CutLeads, Met, Stops, AreCuts, AreAfter, AreAllAfter, Among, Halts, Enters, CutBefore, HasCut, HasHeads, IsOf, Settles, AllSettle, HasOneMore, IsPossible, OneBefore, MeetsOne, MeetsCut, met_binds, reading_binds, HasRuleCuts, HasCutsOfRule, HasCutsIfNamed}
use Rattle.chart_table.proofs.CutsUpTo.{HasCutsUpTo}
use Rattle.chart_table.proofs.PassLemmas.{both_true}
use Rattle.chart_table.proofs.BranchLemmas.{Binds, either, meeting_to, meeting_from, read_to, read_from, single, any_left, any_right, any_append, KnownAll, Each, feats_same, closing_known, closing_to, closing_from}
use Rattle.chart_table.proofs.ChoiceLemmas.{chosen}
use Rattle.chart_table.proofs.PlanLemmas.{choices_same}
use Rattle.chart_table.proofs.OpenerLemmas.{referents-twice}
use Rattle.chart_table.proofs.StepLemmas.{placed_to, placed_from}
use Rattle.chart_table.proofs.EndLemmas.{stripped, known_in_feats, path_to, path_from, rule_at, number_of, has_from, finished_shows, shows_finished}
use Rattle.chart_table.proofs.CutLemmas.{cut_alike, covers_nil, nil_covers}

-- lists of heads

pub heads_none : (s : Setting) (rule : Rule) (cuts : List Cut) → HasHeads s rule (λ j v. ⊥) cuts cuts
heads_none s rule cuts = record { kept = λ j values o. o; new = λ j v i h. absurd h; only = λ j values o. inl o }

pub heads_then : (s : Setting) (rule : Rule) (P Q : ℕ → Binds → Type 0) (before middle after : List Cut) → HasHeads s rule P before middle
    → HasHeads s rule Q middle after → HasHeads s rule (λ j v. P j v ⊎ Q j v) before after
heads_then s rule P Q before middle after a b = record {
  kept = λ j values o. b.kept j values (a.kept j values o);
  new = λ j v i h. either (λ p. b.kept j (feats_under v rule.head.feats) (a.new j v i p)) (λ q. b.new j v i q) h;
  only = λ j values o. either (λ m. either (λ x. inl x) (λ x. inr (x.0, x.1, inl x.2, x.3)) (a.only j values m)) (λ x. inr (x.0, x.1, inr x.2, x.3))
      (b.only j values o);
}

-- by a property that is the same for all instances
pub heads_alike : (s : Setting) (rule : Rule) (P Q : ℕ → Binds → Type 0) (before after : List Cut)
    → ((j : ℕ) (v : Binds) → is_instance s rule v ≡ true → P j v → Q j v) → ((j : ℕ) (v : Binds) → is_instance s rule v ≡ true → Q j v → P j v)
    → HasHeads s rule P before after → HasHeads s rule Q before after
heads_alike s rule P Q before after to back h = record {
  kept = h.kept;
  new = λ j v i q. h.new j v i (back j v i q);
  only = λ j values o. either (λ x. inl x) (λ x. inr (x.0, x.1, to j x.0 x.1 x.2, x.3)) (h.only j values o);
}

-- one more cut-off phrase

cut_left : (xs ys : List Cut) (j : ℕ) (values : Binds) → HasCut xs j values → HasCut (xs ++ ys) j values
cut_left xs ys j values h = (h.0, one_left h.0 xs ys h.1, h.2, h.3)

pub cut_pushed : (before after : List Cut) (x : Cut) → after ≡ before ++ x ∷ [] → HasOneMore x.ask x.values before after
cut_pushed before after x e = subst (HasOneMore x.ask x.values before) (sym e) (record {
  kept = λ j values h. cut_left before (x ∷ []) j values h;
  new = (x, one_last before x, refl, refl);
  only = λ j values h. either (λ o. inl (h.0, o, h.2, h.3))
      (λ is. inr (sym h.2 ∙ ap (λ (c : Cut). c.ask) (sym is), sym h.3 ∙ ap (λ (c : Cut). c.values) (sym is))) (one_front before x h.0 h.1);
})

pub cut_there : (cuts : List Cut) (i : ℕ) (e : Cut) (number : ℕ) (values : Binds) → i < length cuts → e ≡ get_or cuts i e → e.ask ≡ number → e.values ≡ values
    → HasCut cuts number values
cut_there cuts i e number values lt is ask_is values_are =
    (e, one_of_slice cuts i e (slice_get-get_or cuts i e lt ∙ ap Some (sym is)), ask_is, values_are)

-- a head that is there already, one that is added, and one that no instance has

pub head_there : (s : Setting) (rule : Rule) (number : ℕ) (b values : Binds) (cuts : List Cut) → Settles rule b → values ≡ feats_under b rule.head.feats
    → HasCut cuts number values → HasHeads s rule (IsOf number (b ∷ [])) cuts cuts
head_there s rule number b values cuts settled is has = record {
  kept = λ j w o. o;
  new = λ j v i h.
      let same : values ≡ feats_under v rule.head.feats = is ∙ sym (settled v (single v b h.1)) in
      subst (λ k. HasCut cuts k (feats_under v rule.head.feats)) (sym h.0) (subst (HasCut cuts number) same has);
  only = λ j w o. inl o;
}

pub head_added : (s : Setting) (rule : Rule) (number : ℕ) (b values : Binds) (before after : List Cut) → Settles rule b → values ≡ feats_under b rule.head.feats
    → IsPossible s rule b → HasOneMore number values before after → HasHeads s rule (IsOf number (b ∷ [])) before after
head_added s rule number b values before after settled is possible more = record {
  kept = more.kept;
  new = λ j v i h.
      let same : values ≡ feats_under v rule.head.feats = is ∙ sym (settled v (single v b h.1)) in
      subst (λ k. HasCut after k (feats_under v rule.head.feats)) (sym h.0) (subst (HasCut after number) same more.new);
  only = λ j w o. either (λ x. inl x) (λ x. inr (possible.0, possible.1, (x.0, inl possible.2), x.1 ∙ is ∙ sym (settled possible.0 possible.2)))
      (more.only j w o);
}

pub head_never : (s : Setting) (rule : Rule) (number : ℕ) (b : Binds) (cuts : List Cut) → (IsPossible s rule b → ⊥)
    → HasHeads s rule (IsOf number (b ∷ [])) cuts cuts
head_never s rule number b cuts never = record {
  kept = λ j w o. o;
  new = λ j v i h. absurd (never (v, i, single v b h.1));
  only = λ j w o. inl o;
}

-- whether some instance extends an assignment

pub guess_possible : (s : Setting) (rule : Rule) (guess bound : Binds) (a b : Bool) → a ≡ is_instance s rule guess → b ≡ has_values guess bound → a ≡ true
    → b ≡ true → IsPossible s rule bound
guess_possible s rule guess bound a b is has x y = (guess, sym is ∙ x, has_from guess bound (sym has ∙ y))

some_end : (ends : List End) → (ends ≡ [] → ⊥) → (e : End) × OneOf ends e
some_end [] h = absurd (h refl)
some_end (x ∷ xs) h = (x, inl refl)

pub all_tried : (s : Setting) (rule : Rule) (bound : Binds) (state : State) (ends : List End) (before : List Entry) (empty : Bool) → state.binds ≡ bound
    → ends ≡ finished s rule before state → IsTrue empty ↔ (ends ≡ []) → IsTrue (not empty) ↔ IsPossible s rule bound
all_tried s rule bound state ends before empty same is h = by empty h
  where
    some : (e : End) → OneOf ends e → IsPossible s rule bound
    some e o =
        let r = finished_shows s rule before state e (subst (λ l. OneOf l e) is o) in
        (r.values, r.instance, subst (Extends r.values) same r.extends)

    none : ends ≡ [] → IsPossible s rule bound → ⊥
    none e p =
        let o = shows_finished s rule before state p.0 p.1 (subst (Extends p.0) (sym same) p.2) in
        subst (λ l. OneOf l (end_with rule before state p.0)) (sym is ∙ e) o

    by : (x : Bool) → IsTrue x ↔ (ends ≡ []) → IsTrue (not x) ↔ IsPossible s rule bound
    by true e = (λ t. absurd (let z : false ≡ true = t in cc), λ p. absurd (none (e.0 refl) p))
    by false e = (λ t. let one = some_end ends (λ n. let z : false ≡ true = e.1 n in absurd (cc)) in some one.0 one.1, λ p. refl)

-- assignments, one after another

pub of_none : (s : Setting) (rule : Rule) (number : ℕ) (cuts : List Cut) → HasHeads s rule (IsOf number []) cuts cuts
of_none s rule number cuts = heads_alike s rule (λ j v. ⊥) (IsOf number []) cuts cuts (λ j v i h. absurd h) (λ j v i h. h.1) (heads_none s rule cuts)

pub of_turn : (s : Setting) (rule : Rule) (number : ℕ) (bs : List Binds) (i : ℕ) (b : Binds) (first before after : List Cut) → i < length bs → b ≡ get_or bs i b
    → HasHeads s rule (IsOf number (take i bs)) first before → HasHeads s rule (IsOf number (b ∷ [])) before after
    → HasHeads s rule (IsOf number (take (i + 1) bs)) first after
of_turn s rule number bs i b first before after lt is one two =
    let grown : take (i + 1) bs ≡ take i bs ++ b ∷ [] = take_more bs i b lt ∙ ap (λ x. take i bs ++ x ∷ []) (sym is) in
    subst (λ xs. HasHeads s rule (IsOf number xs) first after) (sym grown)
    (heads_alike s rule (λ j v. IsOf number (take i bs) j v ⊎ IsOf number (b ∷ []) j v) (IsOf number (take i bs ++ b ∷ [])) first after
    (λ j v k h. either (λ x. (x.0, any_left v (take i bs) (b ∷ []) x.1)) (λ x. (x.0, any_right v (take i bs) (b ∷ []) x.1)) h)
    (λ j v k h. either (λ x. inl (h.0, x)) (λ x. inr (h.0, x)) (any_append v (take i bs) (b ∷ []) h.1))
    (heads_then s rule (IsOf number (take i bs)) (IsOf number (b ∷ [])) first before after one two))

pub of_done : (s : Setting) (rule : Rule) (number : ℕ) (bs : List Binds) (i : ℕ) (first after : List Cut) → length bs ≤ i
    → HasHeads s rule (IsOf number (take i bs)) first after → HasHeads s rule (IsOf number bs) first after
of_done s rule number bs i first after le h = subst (λ xs. HasHeads s rule (IsOf number xs) first after) (take_all i bs le) h

-- assignments under which all variables of the head are known

pub settles_known : (rule : Rule) (b : Binds) → KnownAll rule.head.feats b → Settles rule b
settles_known rule b known v ext = feats_same v b rule.head.feats ext known

settle_each : (rule : Rule) (bs : List Binds) → Each (KnownAll rule.head.feats) bs → AllSettle rule bs
settle_each rule [] h = tt
settle_each rule (b ∷ bs) h = (settles_known rule b h.0, settle_each rule bs h.1)

pub all_settle : (rule : Rule) (choices : Term → List Value) (feats : List (ℕ × Term)) (bs settled : List Binds) → feats ≡ rule.head.feats
    → settled ≡ closing choices feats bs → AllSettle rule settled
all_settle rule choices feats bs settled f e =
    subst (AllSettle rule) (sym (e ∙ ap (λ x. closing choices x bs) f))
    (settle_each rule (closing choices rule.head.feats bs) (closing_known choices rule.head.feats bs))

pub settles_at : (rule : Rule) (bs : List Binds) (i : ℕ) (b : Binds) → i < length bs → b ≡ get_or bs i b → AllSettle rule bs → Settles rule b
settles_at rule bs i b lt is h = at bs i (slice_get-get_or bs i b lt ∙ ap Some (sym is)) h
  where
    at : (xs : List Binds) (k : ℕ) → slice_get xs k ≡ Some b → AllSettle rule xs → Settles rule b
    at [] k e h = absurd (cc)
    at (x ∷ xs) zero e h = subst (Settles rule) (same_Some x b e) h.0
    at (x ∷ xs) (suc k) e h = at xs k e h.1

pub closed_heads : (s : Setting) (rule : Rule) (plan : Plan) (number : ℕ) (feats : List (ℕ × Term)) (bounds settled seen : List Binds) (before after : List Cut)
    → IsPlan s rule plan → feats ≡ rule.head.feats → settled ≡ closing (choices s plan.terms plan.places plan.own) feats bounds → seen ≡ settled
    → HasHeads s rule (IsOf number seen) before after → HasHeads s rule (IsOf number bounds) before after
closed_heads s rule plan number feats bounds settled seen before after p f e same h =
    let is : seen ≡ closing (choices_in s rule) rule.head.feats bounds =
    same ∙ e ∙ ap (λ x. closing x feats bounds) (choices_same s rule plan p) ∙ ap (λ x. closing (choices_in s rule) x bounds) f in
    heads_alike s rule (IsOf number (closing (choices_in s rule) rule.head.feats bounds)) (IsOf number bounds) before after
    (λ j v i x. (x.0, closing_from (choices_in s rule) v rule.head.feats bounds x.1))
    (λ j v i x. (x.0, closing_to (choices_in s rule) v rule.head.feats bounds (chosen s rule v i) x.1))
    (subst (λ xs. HasHeads s rule (IsOf number xs) before after) is h)

-- items, one after another

pub before_none : {X : Type 0} (s : Setting) (rule : Rule) (xs : List X) (P : ℕ → X → ℕ → Binds → Type 0) (cuts : List Cut)
    → HasHeads s rule (OneBefore xs P 0) cuts cuts
before_none s rule xs P cuts = heads_alike s rule (λ j v. ⊥) (OneBefore xs P 0) cuts cuts (λ j v i h. absurd h)
    (λ j v i h. let lt = h.1 in absurd (omega arith)) (heads_none s rule cuts)

pub before_turn : {X : Type 0} (s : Setting) (rule : Rule) (xs : List X) (P : ℕ → X → ℕ → Binds → Type 0) (i : ℕ) (x : X) (first before after : List Cut)
    → i < length xs → x ≡ get_or xs i x → HasHeads s rule (OneBefore xs P i) first before → HasHeads s rule (P i x) before after
    → HasHeads s rule (OneBefore xs P (i + 1)) first after
before_turn s rule xs P i x first before after lt is one two =
    heads_alike s rule (λ j v. OneBefore xs P i j v ⊎ P i x j v) (OneBefore xs P (i + 1)) first after to from
    (heads_then s rule (OneBefore xs P i) (P i x) first before after one two)
  where
    here : slice_get xs i ≡ Some x
    here = slice_get-get_or xs i x lt ∙ ap Some (sym is)

    to : (j : ℕ) (v : Binds) → is_instance s rule v ≡ true → OneBefore xs P i j v ⊎ P i x j v → OneBefore xs P (i + 1) j v
    to j v instance (inl h) = let below = h.1 in (h.0, omega arith, h.2)
    to j v instance (inr h) = (i, omega arith, (x, here, h))

    from : (j : ℕ) (v : Binds) → is_instance s rule v ≡ true → OneBefore xs P (i + 1) j v → OneBefore xs P i j v ⊎ P i x j v
    from j v instance h = by_last (nat_lt h.0 i) refl
      where
        by_last : (b : Bool) → nat_lt h.0 i ≡ b → OneBefore xs P i j v ⊎ P i x j v
        by_last true t = let below : h.0 < i = grind (arith, nat_tests) in inl (h.0, below, h.2)
        by_last false t =
            let ge : i ≤ h.0 = grind (arith, nat_tests) in
            let below = h.1 in
            let same : h.0 ≡ i = omega arith in
            let r = h.2 in
            let item : r.0 ≡ x = same_Some r.0 x (sym r.1 ∙ ap (slice_get xs) same ∙ here) in
            inr (subst (λ y. P i y j v) item (subst (λ k. P k r.0 j v) same r.2))

pub before_done : {X : Type 0} (s : Setting) (rule : Rule) (xs : List X) (P : ℕ → X → ℕ → Binds → Type 0) (i : ℕ) (first after : List Cut) → length xs ≤ i
    → i ≤ length xs → HasHeads s rule (OneBefore xs P i) first after → HasHeads s rule (OneBefore xs P (length xs)) first after
before_done s rule xs P i first after le ge h =
    let same : i ≡ length xs = omega arith in subst (λ n. HasHeads s rule (OneBefore xs P n) first after) same h

-- what the next element is asked

reading_to : (v b : Binds) (reading : Ground) (e : Element) → Extends v b → takes_reading v reading e ≡ true → AnyExtends v (reading_binds reading e b)
reading_to v b reading (Terminal t) ext h = let z : false ≡ true = h in absurd (cc)
reading_to v b reading (Preterminal c) ext h = read_to v b c reading ext h
reading_to v b reading (Sub c) ext h = let z : false ≡ true = h in absurd (cc)
reading_to v b reading (Position x) ext h = let z : false ≡ true = h in absurd (cc)
reading_to v b reading Opener ext h = let z : false ≡ true = h in absurd (cc)
reading_to v b reading (Forward c) ext h = let z : false ≡ true = h in absurd (cc)
reading_to v b reading (Strong c) ext h = let z : false ≡ true = h in absurd (cc)
reading_to v b reading (Back positive negative) ext h = let z : false ≡ true = h in absurd (cc)
reading_to v b reading (NoBack patterns) ext h = let z : false ≡ true = h in absurd (cc)

reading_from : (v b : Binds) (reading : Ground) (e : Element) → AnyExtends v (reading_binds reading e b) → Extends v b × (takes_reading v reading e ≡ true)
reading_from v b reading (Terminal t) h = absurd h
reading_from v b reading (Preterminal c) h = read_from v b c reading h
reading_from v b reading (Sub c) h = absurd h
reading_from v b reading (Position x) h = absurd h
reading_from v b reading Opener h = absurd h
reading_from v b reading (Forward c) h = absurd h
reading_from v b reading (Strong c) h = absurd h
reading_from v b reading (Back positive negative) h = absurd h
reading_from v b reading (NoBack patterns) h = absurd h

if_any : (v b : Binds) (t : Bool) → Extends v b → t ≡ true → AnyExtends v (if t then b ∷ [] else [])
if_any v b true ext h = inl ext
if_any v b false ext h = absurd (cc)

any_if : (v b : Binds) (t : Bool) → AnyExtends v (if t then b ∷ [] else []) → Extends v b × (t ≡ true)
any_if v b true h = (single v b h, refl)
any_if v b false h = absurd h

met_to : (v b : Binds) (next : Option Element) (a : Ask) → Extends v b → meets v next a ≡ true → AnyExtends v (met_binds next b a)
met_to v b None ask.Any ext h = inl ext
met_to v b (Some e) ask.Any ext h = inl ext
met_to v b None (ask.Terminal number) ext h = let z : false ≡ true = h in absurd (cc)
met_to v b (Some e) (ask.Terminal number) ext h = if_any v b (takes_terminal number e) ext h
met_to v b None (ask.Reading reading) ext h = let z : false ≡ true = h in absurd (cc)
met_to v b (Some e) (ask.Reading reading) ext h = reading_to v b reading e ext h

met_from : (v b : Binds) (next : Option Element) (a : Ask) → AnyExtends v (met_binds next b a) → Extends v b × (meets v next a ≡ true)
met_from v b None ask.Any h = (single v b h, refl)
met_from v b (Some e) ask.Any h = (single v b h, refl)
met_from v b None (ask.Terminal number) h = absurd h
met_from v b (Some e) (ask.Terminal number) h = any_if v b (takes_terminal number e) h
met_from v b None (ask.Reading reading) h = absurd h
met_from v b (Some e) (ask.Reading reading) h = reading_from v b reading e h

-- one state after another

among_left : (P : State → Type 0) (xs ys : List State) → Among P xs → Among P (xs ++ ys)
among_left P [] ys h = absurd h
among_left P (x ∷ xs) ys (inl h) = inl h
among_left P (x ∷ xs) ys (inr h) = inr (among_left P xs ys h)

among_last : (P : State → Type 0) (xs : List State) (x : State) → P x → Among P (xs ++ x ∷ [])
among_last P [] x h = inl h
among_last P (y ∷ xs) x h = inr (among_last P xs x h)

among_split : (P : State → Type 0) (xs : List State) (x : State) → Among P (xs ++ x ∷ []) → Among P xs ⊎ P x
among_split P [] x (inl h) = inr h
among_split P [] x (inr h) = absurd h
among_split P (y ∷ xs) x (inl h) = inl (inl h)
among_split P (y ∷ xs) x (inr h) = either (λ a. inl (inr a)) (λ b. inr b) (among_split P xs x h)

pub among_none : (s : Setting) (rule : Rule) (P : ℕ → Binds → State → Type 0) (cuts : List Cut) → HasHeads s rule (λ j v. Among (P j v) []) cuts cuts
among_none s rule P cuts = heads_alike s rule (λ j v. ⊥) (λ j v. Among (P j v) []) cuts cuts (λ j v i x. absurd x) (λ j v i x. absurd x)
    (heads_none s rule cuts)

pub heads_turn : (s : Setting) (rule : Rule) (P : ℕ → Binds → State → Type 0) (states : List State) (i : ℕ) (state : State) (first before after : List Cut)
    → i < length states → state ≡ get_or states i state → HasHeads s rule (λ j v. Among (P j v) (take i states)) first before
    → HasHeads s rule (λ j v. P j v state) before after → HasHeads s rule (λ j v. Among (P j v) (take (i + 1) states)) first after
heads_turn s rule P states i state first before after lt is a b =
    let grown : take (i + 1) states ≡ take i states ++ state ∷ [] = take_more states i state lt ∙ ap (λ x. take i states ++ x ∷ []) (sym is) in
    subst (λ xs. HasHeads s rule (λ j v. Among (P j v) xs) first after) (sym grown)
    (heads_alike s rule (λ j v. Among (P j v) (take i states) ⊎ P j v state) (λ j v. Among (P j v) (take i states ++ state ∷ [])) first after
    (λ j v k h. either (λ x. among_left (P j v) (take i states) (state ∷ []) x) (λ x. among_last (P j v) (take i states) state x) h)
    (λ j v k h. among_split (P j v) (take i states) state h)
    (heads_then s rule (λ j v. Among (P j v) (take i states)) (λ j v. P j v state) first before after a b))

pub heads_done : (s : Setting) (rule : Rule) (P : ℕ → Binds → State → Type 0) (states : List State) (i : ℕ) (first after : List Cut) → length states ≤ i
    → HasHeads s rule (λ j v. Among (P j v) (take i states)) first after → HasHeads s rule (λ j v. Among (P j v) states) first after
heads_done s rule P states i first after le h = subst (λ xs. HasHeads s rule (λ j v. Among (P j v) xs) first after) (take_all i states le) h

-- a state at the place where phrases are cut off, or elsewhere

pub halts_here : (s : Setting) (aim : Aims) (rule : Rule) (next : Option Element) (state : State) (binds : Binds) (before after : List Cut)
    → state.place ≡ aim.halt → binds ≡ state.binds → HasHeads s rule (OneBefore aim.asks (MeetsOne next binds) (length aim.asks)) before after
    → HasHeads s rule (λ j v. Halts aim next j v state) before after
halts_here s aim rule next state binds before after is same h =
    heads_alike s rule (OneBefore aim.asks (MeetsOne next state.binds) (length aim.asks)) (λ j v. Halts aim next j v state) before after to from
    (subst (λ b. HasHeads s rule (OneBefore aim.asks (MeetsOne next b) (length aim.asks)) before after) same h)
  where
    to : (j : ℕ) (v : Binds) → is_instance s rule v ≡ true → OneBefore aim.asks (MeetsOne next state.binds) (length aim.asks) j v → Halts aim next j v state
    to j v i h =
        let r = h.2 in
        let met = met_from v state.binds next r.0 r.2.1 in
        (met.0, is, (r.0, ap (slice_get aim.asks) r.2.0 ∙ r.1, met.1))

    from : (j : ℕ) (v : Binds) → is_instance s rule v ≡ true → Halts aim next j v state → OneBefore aim.asks (MeetsOne next state.binds) (length aim.asks) j v
    from j v i h =
        let m = h.2 in
        (j, slice_get_within aim.asks j m.0 m.1, (m.0, m.1, (refl, met_to v state.binds next m.0 h.0 m.2)))

pub halts_not : (s : Setting) (aim : Aims) (rule : Rule) (next : Option Element) (state : State) (cuts : List Cut) → (state.place ≡ aim.halt → ⊥)
    → HasHeads s rule (λ j v. Halts aim next j v state) cuts cuts
halts_not s aim rule next state cuts not =
    heads_alike s rule (λ j v. ⊥) (λ j v. Halts aim next j v state) cuts cuts (λ j v i x. absurd x) (λ j v i x. not x.1) (heads_none s rule cuts)

-- elements that are no categories are never cut off within
pub enters_not : (s : Setting) (aim : Aims) (rule : Rule) (e : Element) (state : State) (cuts : List Cut) → sub_of e ≡ None
    → HasHeads s rule (λ j v. Enters s aim e j v state) cuts cuts
enters_not s aim rule e state cuts none =
    heads_alike s rule (λ j v. ⊥) (λ j v. Enters s aim e j v state) cuts cuts (λ j v i x. absurd x) (λ j v i x. some_not (sub_of e) x.1.0 none x.1.1)
    (heads_none s rule cuts)
  where
    some_not : (o : Option Category) (c : Category) → o ≡ None → o ≡ Some c → ⊥
    some_not o c a b = let z : None ≡ Some c = sym a ∙ b in absurd (cc)

-- a category that is cut off, by the cut-off phrases of its row

slice_of_one : {X : Type 0} (xs : List X) (x : X) → OneOf xs x → (k : ℕ) × (slice_get xs k ≡ Some x)
slice_of_one [] x o = absurd o
slice_of_one (y ∷ ys) x (inl e) = (0, ap Some e)
slice_of_one (y ∷ ys) x (inr o) = let r = slice_of_one ys x o in (suc r.0, r.1)

enters_to : (s : Setting) (aim : Aims) (j : ℕ) (v : Binds) (c : Category) (state : State) (cuts : List Cut)
    → AreCuts s aim c.name (known_features state.binds c.feats) (stripped state) cuts → Enters s aim (Sub c) j v state
    → OneBefore cuts (MeetsCut c state.binds) (length cuts) j v
enters_to s aim j v c state cuts is h =
    let leads : CutLeads s aim j (under v c) (at_of state) = subst (λ d. CutLeads s aim j (under v d) (at_of state)) (sym (same_Some c h.1.0 h.1.1)) h.1.2 in
    let alike = cut_alike s aim j (under v c) state.place state.list (referents state.list) (sym (referents-twice state.list)) leads in
    let found = is.complete j (under v c) refl (λ p o. known_in_feats v state.binds c.feats p h.0 o) alike in
    let cut = found.1 in
    let e = cut.0 in
    let at = slice_of_one cuts e cut.1 in
    let all : list_all (λ p. list_all (same_where_both p) (feats_under v c.feats)) e.values ≡ true =
    ap (list_all (λ p. list_all (same_where_both p) (feats_under v c.feats))) cut.3
    ∙ both_true (c.name == c.name) (list_all (λ p. list_all (same_where_both p) (feats_under v c.feats)) found.0) found.2 (λ _ t. t) in
    (at.0, slice_get_within cuts at.0 e at.1, (e, at.1, (sym cut.2, meeting_to v e.values c.feats (state.binds ∷ []) (inl h.0) all)))

enters_from : (s : Setting) (aim : Aims) (j : ℕ) (v : Binds) (c : Category) (state : State) (cuts : List Cut)
    → AreCuts s aim c.name (known_features state.binds c.feats) (stripped state) cuts → OneBefore cuts (MeetsCut c state.binds) (length cuts) j v
    → Enters s aim (Sub c) j v state
enters_from s aim j v c state cuts is h =
    let r = h.2 in
    let e = r.0 in
    let m = meeting_from v e.values c.feats (state.binds ∷ []) r.2.1 in
    let leads = is.sound j e.values (e, one_of_slice cuts h.0 e r.1, sym r.2.0, refl) (under v c) refl
    (and_from (c.name == c.name) (list_all (λ p. list_all (same_where_both p) (feats_under v c.feats)) e.values) (eqb_refl c.name) m.1) in
    (single v state.binds m.0, (c, refl, cut_alike s aim j (under v c) state.place (referents state.list) state.list (referents-twice state.list) leads))

pub enters_heads : (s : Setting) (aim : Aims) (rule : Rule) (c : Category) (state : State) (cuts before after : List Cut)
    → AreCuts s aim c.name (known_features state.binds c.feats) (stripped state) cuts
    → HasHeads s rule (OneBefore cuts (MeetsCut c state.binds) (length cuts)) before after
    → HasHeads s rule (λ j v. Enters s aim (Sub c) j v state) before after
enters_heads s aim rule c state cuts before after is h =
    heads_alike s rule (OneBefore cuts (MeetsCut c state.binds) (length cuts)) (λ j v. Enters s aim (Sub c) j v state) before after
    (λ j v i x. enters_from s aim j v c state cuts is x) (λ j v i x. enters_to s aim j v c state cuts is x) h

-- one element after another

among_from : (P : State → Type 0) (v : Binds) (last : At) (states : List State) → Covers v last states
    → ((x : State) → Extends v x.binds → at_of x ≡ last → P x) → Among P states
among_from P v last [] h f = absurd h
among_from P v last (x ∷ xs) (inl h) f = inl (f x h.0 h.1)
among_from P v last (x ∷ xs) (inr h) f = inr (among_from P v last xs h f)

halts_at : (aim : Aims) (next : Option Element) (j : ℕ) (v : Binds) (states : List State) → Among (Halts aim next j v) states
    → (last : At) × Covers v last states × (last.place ≡ aim.halt) × Met aim j v next
halts_at aim next j v [] h = absurd h
halts_at aim next j v (x ∷ xs) (inl h) = (at_of x, inl (h.0, refl), h.1, h.2)
halts_at aim next j v (x ∷ xs) (inr h) = let r = halts_at aim next j v xs h in (r.0, inr r.1, r.2, r.3)

enters_at : (s : Setting) (aim : Aims) (e : Element) (j : ℕ) (v : Binds) (states : List State) → Among (Enters s aim e j v) states
    → (last : At) × Covers v last states × ((c : Category) × (sub_of e ≡ Some c) × CutLeads s aim j (under v c) last)
enters_at s aim e j v [] h = absurd h
enters_at s aim e j v (x ∷ xs) (inl h) = (at_of x, inl (h.0, refl), h.1)
enters_at s aim e j v (x ∷ xs) (inr h) = let r = enters_at s aim e j v xs h in (r.0, inr r.1, r.2)

pub cut_before_none : (s : Setting) (aim : Aims) (rule : Rule) (starts : List State) (cuts : List Cut)
    → HasHeads s rule (CutBefore s aim rule starts 0) cuts cuts
cut_before_none s aim rule starts cuts =
    heads_alike s rule (λ j v. ⊥) (CutBefore s aim rule starts 0) cuts cuts (λ j v i x. absurd x) (λ j v i x. let lt = x.1 in absurd (omega arith))
    (heads_none s rule cuts)

-- what is cut off before one more element, and within it
abbrev CutMore : Setting → Aims → Rule → List State → ℕ → Element → List State → ℕ → Binds → Type 0
CutMore s aim rule starts i e states j v = (CutBefore s aim rule starts i j v ⊎ Among (Halts aim (Some e) j v) states) ⊎ Among (Enters s aim e j v) states

cut_more_to : (s : Setting) (aim : Aims) (rule : Rule) (starts : List State) (n i : ℕ) (e : Element) (states : List State) (j : ℕ) (v : Binds)
    → slice_get rule.body i ≡ Some e → AreAfter s rule starts n i states → is_instance s rule v ≡ true → CutMore s aim rule starts i e states j v
    → CutBefore s aim rule starts (i + 1) j v
cut_more_to s aim rule starts n i e states j v at after instance (inl (inl h)) = let lt = h.1 in (h.0, omega arith, h.2)
cut_more_to s aim rule starts n i e states j v at after instance (inl (inr h)) =
    let r = halts_at aim (Some e) j v states h in (i, omega arith, (r.0, after.back v r.0 instance r.1, inl (r.2, subst (Met aim j v) (sym at) r.3)))
cut_more_to s aim rule starts n i e states j v at after instance (inr h) =
    let r = enters_at s aim e j v states h in (i, omega arith, (r.0, after.back v r.0 instance r.1, inr (r.2.0, ap (option_and_then sub_of) at ∙ r.2.1, r.2.2)))

cut_more_from : (s : Setting) (aim : Aims) (rule : Rule) (starts : List State) (n i : ℕ) (e : Element) (states : List State) (j : ℕ) (v : Binds)
    → slice_get rule.body i ≡ Some e → AreAfter s rule starts n i states → is_instance s rule v ≡ true → CutBefore s aim rule starts (i + 1) j v
    → CutMore s aim rule starts i e states j v
cut_more_from s aim rule starts n i e states j v at after instance h = by_last (nat_lt h.0 i) refl
  where
    here : (last : At) → Covers v last states → Stops s aim j rule v i last → CutMore s aim rule starts i e states j v
    here last covers (inl is) = inl (inr
        (among_from (Halts aim (Some e) j v) v last states covers (λ x ext same. (ext, ap (λ a. a.place) same ∙ is.0, subst (Met aim j v) at is.1))))
    here last covers (inr c) = inr (among_from (Enters s aim e j v) v last states covers
        (λ x ext same. (ext, (c.0, sym (ap (option_and_then sub_of) at) ∙ c.1, subst (CutLeads s aim j (under v c.0)) (sym same) c.2))))

    by_last : (b : Bool) → nat_lt h.0 i ≡ b → CutMore s aim rule starts i e states j v
    by_last true t = let lt : h.0 < i = grind (arith, nat_tests) in inl (inl (h.0, lt, h.2))
    by_last false t =
        let ge : i ≤ h.0 = grind (arith, nat_tests) in
        let lt = h.1 in
        let same : h.0 ≡ i = omega arith in
        let r = h.2 in
        here r.0 (after.forth v r.0 instance (subst (λ k. CoversPath s v (own_values rule v) (take k rule.body) r.0 starts) same r.1))
        (subst (λ k. Stops s aim j rule v k r.0) same r.2)

-- after one more element
pub cut_before_more : (s : Setting) (aim : Aims) (rule : Rule) (starts : List State) (n i : ℕ) (e : Element) (states : List State)
    (first before middle after : List Cut) → i < length rule.body → e ≡ get_or rule.body i e → AreAfter s rule starts n i states
    → HasHeads s rule (CutBefore s aim rule starts i) first before → HasHeads s rule (λ j v. Among (Halts aim (Some e) j v) states) before middle
    → HasHeads s rule (λ j v. Among (Enters s aim e j v) states) middle after → HasHeads s rule (CutBefore s aim rule starts (i + 1)) first after
cut_before_more s aim rule starts n i e states first before middle after lt is are a b c =
    let at : slice_get rule.body i ≡ Some e = slice_get-get_or rule.body i e lt ∙ ap Some (sym is) in
    heads_alike s rule (CutMore s aim rule starts i e states) (CutBefore s aim rule starts (i + 1)) first after
    (λ j v k h. cut_more_to s aim rule starts n i e states j v at are k h) (λ j v k h. cut_more_from s aim rule starts n i e states j v at are k h)
    (heads_then s rule (λ j v. CutBefore s aim rule starts i j v ⊎ Among (Halts aim (Some e) j v) states) (λ j v. Among (Enters s aim e j v) states) first
    middle after (heads_then s rule (CutBefore s aim rule starts i) (λ j v. Among (Halts aim (Some e) j v) states) first before middle a b) c)

-- all of a rule

-- the states after all elements, as the ends of phrases see them
pub all_after_last : (s : Setting) (rule : Rule) (starts states : List State) → AreAllAfter s rule starts states → AreLast s rule starts states
all_after_last s rule starts states h =
    let all : take (length rule.body) rule.body ≡ rule.body = take_all (length rule.body) rule.body (omega arith) in
    let are = h.1 in (
      h.0,
      record {
        numbered = are.numbered;
        forth = λ v last instance p. nil_covers s v (drop (h.0 - 16) (own_values rule v)) last states
            (are.forth v last instance (subst (λ es. CoversPath s v (own_values rule v) es last starts) (sym all) p));
        back = λ v last instance p. subst (λ es. CoversPath s v (own_values rule v) es last starts) all
            (are.back v last instance (covers_nil s v (drop (h.0 - 16) (own_values rule v)) last states p));
      },
    )

starts_lead : (s : Setting) (rule : Rule) (v known : Binds) (place : ℕ) (list : List Entry) (es : List Element) (last : At) → Agrees known rule v
    → Path s v (own_values rule v) es (record { place = place; list = list }) last
    → CoversPath s v (own_values rule v) es last (starting known rule.head.feats place list)
starts_lead s rule v known place list es last agrees path =
    path_to s v (own_values rule v) es last (record { place = place; list = list }) (starting known rule.head.feats place list)
    (placed_to v place list (record { place = place; list = list }) (meeting known rule.head.feats ([] ∷ []))
    (meeting_to v known rule.head.feats ([] ∷ []) (inl tt) agrees) refl) path

lead_starts : (s : Setting) (rule : Rule) (v known : Binds) (place : ℕ) (list : List Entry) (es : List Element) (last : At)
    → CoversPath s v (own_values rule v) es last (starting known rule.head.feats place list)
    → Path s v (own_values rule v) es (record { place = place; list = list }) last
lead_starts s rule v known place list es last h =
    let r = path_from s v (own_values rule v) es last (starting known rule.head.feats place list) h in
    let at = placed_from v place list r.0 (meeting known rule.head.feats ([] ∷ [])) r.1 in
    subst (λ a. Path s v (own_values rule v) es a last) at.1 r.2

-- what an instance is cut off after, among the elements
cut_of_path : (s : Setting) (aim : Aims) (rule : Rule) (j : ℕ) (v : Binds) (starts states : List State) (k : ℕ) (last : At) → AreAllAfter s rule starts states
    → is_instance s rule v ≡ true → CoversPath s v (own_values rule v) (take k rule.body) last starts → Stops s aim j rule v k last
    → CutBefore s aim rule starts (length rule.body) j v ⊎ Among (Halts aim None j v) states
cut_of_path s aim rule j v starts states k last are instance path stop = by_count (nat_lt k (length rule.body)) refl
  where
    at_end : length rule.body ≤ k → Stops s aim j rule v k last → Among (Halts aim None j v) states
    at_end le (inl is) =
        let all : take k rule.body ≡ take (length rule.body) rule.body = take_all k rule.body le ∙ sym (take_all (length rule.body) rule.body (omega arith)) in
        let met : Met aim j v None = subst (Met aim j v) (slice_get_past rule.body k le) is.1 in
        among_from (Halts aim None j v) v last states (are.1.forth v last instance (subst (λ es. CoversPath s v (own_values rule v) es last starts) all path))
        (λ x ext same. (ext, ap (λ a. a.place) same ∙ is.0, met))
    at_end le (inr c) =
        let none : None ≡ Some c.0 = sym (ap (option_and_then sub_of) (slice_get_past rule.body k le)) ∙ c.1 in absurd (cc)

    by_count : (b : Bool) → nat_lt k (length rule.body) ≡ b → CutBefore s aim rule starts (length rule.body) j v ⊎ Among (Halts aim None j v) states
    by_count true t = let lt : k < length rule.body = grind (arith, nat_tests) in inl (k, lt, (last, path, stop))
    by_count false t = let ge : length rule.body ≤ k = grind (arith, nat_tests) in inr (at_end ge stop)

path_of_cut : (s : Setting) (aim : Aims) (rule : Rule) (j : ℕ) (v : Binds) (starts states : List State) → AreAllAfter s rule starts states
    → is_instance s rule v ≡ true → CutBefore s aim rule starts (length rule.body) j v ⊎ Among (Halts aim None j v) states
    → (k : ℕ) × ((last : At) × CoversPath s v (own_values rule v) (take k rule.body) last starts × Stops s aim j rule v k last)
path_of_cut s aim rule j v starts states are instance (inl h) = (h.0, h.2)
path_of_cut s aim rule j v starts states are instance (inr h) =
    let r = halts_at aim None j v states h in (
      length rule.body,
      (
        r.0,
        are.1.back v r.0 instance r.1,
        inl (r.2, subst (Met aim j v) (sym (slice_get_past rule.body (length rule.body) (omega arith))) r.3),
      ),
    )

pub rule_cut : (s : Setting) (aim : Aims) (rule : Rule) (known : Binds) (place : ℕ) (list : List Entry) (starts states : List State)
    (before middle after : List Cut) → starts ≡ starting known rule.head.feats place list → AreAllAfter s rule starts states
    → HasHeads s rule (CutBefore s aim rule starts (length rule.body)) before middle → HasHeads s rule (λ j v. Among (Halts aim None j v) states) middle after
    → HasCutsOfRule s aim rule known (record { place = place; list = list }) before after
rule_cut s aim rule known place list starts states before middle after e are a b =
    let both = heads_then s rule (CutBefore s aim rule starts (length rule.body)) (λ j v. Among (Halts aim None j v) states) before middle after a b in
    record {
      kept = both.kept;
      new = λ j v k last instance agrees path stop.
          both.new j v instance (cut_of_path s aim rule j v starts states k last are instance
          (subst (CoversPath s v (own_values rule v) (take k rule.body) last) (sym e)
          (starts_lead s rule v known place list (take k rule.body) last agrees path)) stop);
      only = λ j x o. either (λ h. inl h) (λ h.
          let r = path_of_cut s aim rule j h.0 starts states are h.1 h.2 in
          inr (record {
            values = h.0;
            instance = h.1;
            is = h.3;
            count = r.0;
            last = r.1.0;
            path = lead_starts s rule h.0 known place list (take r.0 rule.body) r.1.0
                (subst (CoversPath s h.0 (own_values rule h.0) (take r.0 rule.body) r.1.0) e r.1.1);
            stop = r.1.2;
          })) (both.only j x o);
    }

-- one rule after another

cuts_kept : (s : Setting) (aim : Aims) (rule : Rule) (known : Binds) (at : At) (before after : List Cut)
    → ((j : ℕ) (values : Binds) → HasCut before j values → HasCut after j values) → HasRuleCuts s aim rule known at before
    → HasRuleCuts s aim rule known at after
cuts_kept s aim rule known at before after kept has j v k last instance agrees path stop =
    kept j (feats_under v rule.head.feats) (has j v k last instance agrees path stop)

pub cuts_none : (s : Setting) (aim : Aims) (name : ℕ) (known : Binds) (at : At) → HasCutsUpTo s aim name known at 0 []
cuts_none s aim name known at = record {
  sound = λ j values o. absurd o.1;
  complete = λ number rule has le named. none_at number rule has le;
}
  where
    none_at : (number : ℕ) (rule : Rule) → rule_with s.grammar number ≡ Some rule → number ≤ 0 → HasRuleCuts s aim rule known at []
    none_at zero rule has le = absurd (cc)
    none_at (suc n) rule has le = absurd (omega arith)

cuts_skip : (s : Setting) (aim : Aims) (name : ℕ) (known : Binds) (at : At) (i : ℕ) (rule : Rule) (cuts : List Cut) → slice_get s.grammar.rules i ≡ Some rule
    → (rule.head.name ≡ name → ⊥) → HasCutsUpTo s aim name known at i cuts → HasCutsUpTo s aim name known at (i + 1) cuts
cuts_skip s aim name known at i rule cuts is other h = record {
  sound = h.sound;
  complete = λ number r has le named. by_last number r has le named (nat_lt i number) refl;
}
  where
    by_last : (number : ℕ) (r : Rule) → rule_with s.grammar number ≡ Some r → number ≤ i + 1 → r.head.name ≡ name → (b : Bool) → nat_lt i number ≡ b
        → HasRuleCuts s aim r known at cuts
    by_last number r has le named true t =
        let lt : i < number = grind (arith, nat_tests) in
        let e : number ≡ i + 1 = omega arith in
        absurd (other (ap (λ x. x.head.name) (sym (rule_at s number i rule r has is e)) ∙ named))
    by_last number r has le named false t =
        let ge : number ≤ i = grind (arith, nat_tests) in
        h.complete number r has ge named

cuts_more : (s : Setting) (aim : Aims) (name : ℕ) (known : Binds) (at : At) (i : ℕ) (rule : Rule) (cuts more : List Cut)
    → slice_get s.grammar.rules i ≡ Some rule → rule.head.name ≡ name → HasCutsUpTo s aim name known at i cuts → HasCutsOfRule s aim rule known at cuts more
    → HasCutsUpTo s aim name known at (i + 1) more
cuts_more s aim name known at i rule cuts more is named h has_cuts = record {
  sound = λ j values o. either (λ x. h.sound j values x) (λ x. record { number = i + 1; rule = rule; has = number_of s i rule is; named = named; cut = x })
      (has_cuts.only j values o);
  complete = λ number r has le n. by_last number r has le n (nat_lt i number) refl;
}
  where
    by_last : (number : ℕ) (r : Rule) → rule_with s.grammar number ≡ Some r → number ≤ i + 1 → r.head.name ≡ name → (b : Bool) → nat_lt i number ≡ b
        → HasRuleCuts s aim r known at more
    by_last number r has le n true t =
        let lt : i < number = grind (arith, nat_tests) in
        let e : number ≡ i + 1 = omega arith in
        subst (λ x. HasRuleCuts s aim x known at more) (sym (rule_at s number i rule r has is e)) has_cuts.new
    by_last number r has le n false t =
        let ge : number ≤ i = grind (arith, nat_tests) in
        cuts_kept s aim r known at cuts more has_cuts.kept (h.complete number r has ge n)

pub cut_rule_turn : (s : Setting) (aim : Aims) (name : ℕ) (known : Binds) (at : At) (rules : List Rule) (i : ℕ) (rule : Rule) (cuts more : List Cut)
    → rules ≡ s.grammar.rules → i < length rules → rule ≡ get_or rules i rule → HasCutsUpTo s aim name known at i cuts
    → HasCutsIfNamed s aim rule name known at cuts more → HasCutsUpTo s aim name known at (i + 1) more
cut_rule_turn s aim name known at rules i rule cuts more e lt is h has = by_name (nat_eq rule.head.name name) refl
  where
    here : slice_get s.grammar.rules i ≡ Some rule
    here = ap (λ l. slice_get l i) (sym e) ∙ slice_get-get_or rules i rule lt ∙ ap Some (sym is)

    by_name : (b : Bool) → nat_eq rule.head.name name ≡ b → HasCutsUpTo s aim name known at (i + 1) more
    by_name true n =
        let named : rule.head.name ≡ name = grind (arith, nat_tests) in
        cuts_more s aim name known at i rule cuts more here named h (has.named named)
    by_name false n =
        let other : rule.head.name ≡ name → ⊥ =
        λ same. (let t : nat_eq rule.head.name name ≡ true = grind (arith, nat_tests) in let c : true ≡ false = sym t ∙ n in absurd (cc)) in
        subst (HasCutsUpTo s aim name known at (i + 1)) (sym (has.other other)) (cuts_skip s aim name known at i rule cuts here other h)

pub named_cuts : (s : Setting) (aim : Aims) (rule : Rule) (name : ℕ) (known : Binds) (at : At) (before after : List Cut) → rule.head.name ≡ name
    → HasCutsOfRule s aim rule known at before after → HasCutsIfNamed s aim rule name known at before after
named_cuts s aim rule name known at before after named has = record { named = λ _. has; other = λ other. absurd (other named) }

pub other_cuts : (s : Setting) (aim : Aims) (rule : Rule) (name : ℕ) (known : Binds) (at : At) (cuts : List Cut) → (rule.head.name ≡ name → ⊥)
    → HasCutsIfNamed s aim rule name known at cuts cuts
other_cuts s aim rule name known at cuts other = record { named = λ named. absurd (other named); other = λ _. refl }

pub start_cuts : (s : Setting) (aim : Aims) (name : ℕ) (known : Binds) (at : At) (cuts : List Cut) → cuts ≡ [] → HasCutsUpTo s aim name known at 0 cuts
start_cuts s aim name known at cuts e = subst (HasCutsUpTo s aim name known at 0) (sym e) (cuts_none s aim name known at)

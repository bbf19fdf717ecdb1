-- The states after an element cover exactly where the element leads.
use Rattle.std.proofs.Common.{◌≡◌, ℕ, suc, zero, ◌+◌, List, [], ◌∷◌, ◌++◌, Bool, true, false, ◌&&◌, ◌||◌, map, drop, Option, Some, None, refl, sym, ap, ◌∙◌, subst, arith, ◌⊎◌, inl, inr}
use Rattle.std.specs.Prelude.{if◌then◌else◌, unwrap_or, slice_get}
use Rattle.std.specs.Option.{option_map_or}
use Rattle.std.specs.List.{list_any, list_all}
use Rattle.std.proofs.Math.Bool.{or-true}
use Rattle.codeco_terms.specs.declared.values.Value.{Value}
use Rattle.codeco_terms.specs.declared.values.Value.TheVariants.{Pos}
use Rattle.codeco_terms.specs.declared.values.Term.{Term}
use Rattle.codeco_terms.specs.declared.values.Term.TheVariants.{Var}
use Rattle.codeco_terms.specs.declared.categories.Category.{Category}
use Rattle.codeco_terms.specs.declared.categories.Pattern.{Pattern}
use Rattle.codeco_terms.specs.declared.categories.Ground.{Ground}
use Rattle.codeco_terms.specs.declared.elements.Element.{Element}
use Rattle.codeco_terms.specs.declared.elements.Element.TheVariants.{Terminal, Preterminal, Sub, Position, Opener, Forward, Strong, Back, NoBack}
use Rattle.scopes.specs.declared.entries.Entry.{Entry}
use Rattle.scopes.specs.declared.entries.Entry.TheVariants as entry
use Rattle.scopes.specs.declared.agreement.Test.{Test}
use Rattle.scopes.specs.AccessList.{introduced}
use Rattle.scopes.specs.Resolution.{has_value, agrees, Finding, is_agreeing, closest_finding}
use Rattle.derivation_trees.specs.Settings.{Setting, matches_terminal, matches_preterminal}
use Rattle.derivation_trees.specs.Instances.{looked_up, value_under, term_value, under, feats_under, tests_under, features_of}
use Rattle.derivation_trees.specs.Derives.{At, referent, filled, filled_value, first_value, own_after, takes, reference_tests}
use Rattle.derivation_trees.specs.Stands.{is_sub}
use Rattle.chart_table.specs.declared.states.State.{State}
use Rattle.chart_table.specs.Leading.{ElementLeads, Finds, entered}
use Rattle.chart_table.specs.Branches.{OneOf, Extends, AnyExtends, restricted, read_as, closing, closing_patterns, marked}
use Rattle.chart_table.specs.Steps.{at_of, Covers, placed, readings_at, read_all, completed_term, number_after, completed, introduced_state, introducing, taking, finding_binds, refer, refer_none, plain_steps}
use Rattle.chart_table.specs.Ends.{OwnFrom}
use Rattle.chart_table.proofs.BranchLemmas.{Binds, either, any_left, any_right, any_append, restricted_to, restricted_from, having_to, having_from, read_to, read_from, Chosen, closing_to, closing_from, closing_patterns_to, closing_patterns_from, KnownAll, KnownPatterns, Each, closing_known, closing_patterns_known, closing_patterns_keeps, patterns_stay, each_both, feats_same, tests_same, single}

pub covers_left : (v : Binds) (at : At) (xs ys : List State) → Covers v at xs → Covers v at (xs ++ ys)
covers_left v at [] ys h = absurd h
covers_left v at (x ∷ xs) ys (inl h) = inl h
covers_left v at (x ∷ xs) ys (inr h) = inr (covers_left v at xs ys h)

pub covers_right : (v : Binds) (at : At) (xs ys : List State) → Covers v at ys → Covers v at (xs ++ ys)
covers_right v at [] ys h = h
covers_right v at (x ∷ xs) ys h = inr (covers_right v at xs ys h)

pub covers_append : (v : Binds) (at : At) (xs ys : List State) → Covers v at (xs ++ ys) → Covers v at xs ⊎ Covers v at ys
covers_append v at [] ys h = inr h
covers_append v at (x ∷ xs) ys (inl h) = inl (inl h)
covers_append v at (x ∷ xs) ys (inr h) = either (λ a. inl (inr a)) (λ b. inr b) (covers_append v at xs ys h)

pub placed_to : (v : Binds) (place : ℕ) (list : List Entry) (at : At) (bs : List Binds) → AnyExtends v bs → at ≡ record { place = place; list = list }
    → Covers v at (placed place list bs)
placed_to v place list at [] h e = absurd h
placed_to v place list at (b ∷ bs) (inl h) e = inl (h, sym e)
placed_to v place list at (b ∷ bs) (inr h) e = inr (placed_to v place list at bs h e)

pub placed_from : (v : Binds) (place : ℕ) (list : List Entry) (at : At) (bs : List Binds) → Covers v at (placed place list bs)
    → AnyExtends v bs × (at ≡ record { place = place; list = list })
placed_from v place list at [] h = absurd h
placed_from v place list at (b ∷ bs) (inl h) = (inl h.0, sym h.1)
placed_from v place list at (b ∷ bs) (inr h) = let r = placed_from v place list at bs h in (inr r.0, r.1)

-- readings

read_all_to : (v b : Binds) (c : Category) (readings : List Ground) → Extends v b → list_any (λ r. agrees r (under v c)) readings ≡ true
    → AnyExtends v (read_all c b readings)
read_all_to v b c [] h t = absurd (cc)
read_all_to v b c (r ∷ rs) h t = at (agrees r (under v c)) refl (read_all_to v b c rs h) t
  where
    at : (a : Bool) → agrees r (under v c) ≡ a → (list_any (λ r. agrees r (under v c)) rs ≡ true → AnyExtends v (read_all c b rs))
        → (a || list_any (λ r. agrees r (under v c)) rs) ≡ true → AnyExtends v (read_as c b r ++ read_all c b rs)
    at true e rest t = any_left v (read_as c b r) (read_all c b rs) (read_to v b c r h e)
    at false e rest t = any_right v (read_as c b r) (read_all c b rs) (rest t)

read_all_from : (v b : Binds) (c : Category) (readings : List Ground) → AnyExtends v (read_all c b readings)
    → Extends v b × (list_any (λ r. agrees r (under v c)) readings ≡ true)
read_all_from v b c [] h = absurd h
read_all_from v b c (r ∷ rs) h =
    either (λ a. let one = read_from v b c r a in (one.0, ap (λ t. t || list_any (λ r. agrees r (under v c)) rs) one.1))
    (λ a. let rest = read_all_from v b c rs a in (rest.0, ap (λ t. agrees r (under v c) || t) rest.1 ∙ or-true (agrees r (under v c))))
    (any_append v (read_as c b r) (read_all c b rs) h)

matches_is : (s : Setting) (asked : Test) (place : ℕ) → matches_preterminal s asked place ≡ list_any (λ r. agrees r asked) (readings_at s place)
matches_is s asked place = at (slice_get s.readings place)
  where
    at : (o : Option (List Ground)) → option_map_or (λ readings. list_any (λ reading. agrees reading asked) readings) o false
        ≡ list_any (λ r. agrees r asked) (unwrap_or o [])
    at None = refl
    at (Some rs) = refl

-- introductions

own_first : (v own : Binds) (n : ℕ) → OwnFrom v own n → first_value own ≡ value_under v n
own_first v own n h = let e : n + 0 ≡ n = omega arith in h 0 ∙ ap (value_under v) e

own_next : (v own : Binds) (n : ℕ) → OwnFrom v own n → OwnFrom v (drop 1 own) (n + 1)
own_next v own n h j =
    let e : n + suc j ≡ (n + 1) + j = omega arith in
    ap first_value (drop_next own j) ∙ h (suc j) ∙ ap (value_under v) e
  where
    drop_next : (own : Binds) (j : ℕ) → drop j (drop 1 own) ≡ drop (suc j) own
    drop_next [] zero = refl
    drop_next [] (suc j) = refl
    drop_next (p ∷ own) j = refl

filled_at : (v own : Binds) (feats : List (ℕ × Term)) (f : ℕ) (fs : List ℕ) (n : ℕ) (o : Option Term) → OwnFrom v own n
    → ((own2 : Binds) (m : ℕ) → OwnFrom v own2 m → filled v feats fs own2 ≡ feats_under v (completed feats fs m))
    → ((f, filled_value v own o) ∷ filled v feats fs (own_after own o))
    ≡ ((f, term_value v (completed_term n o)) ∷ feats_under v (completed feats fs (number_after n o)))
filled_at v own feats f fs n None h rest =
    ap (λ x. (f, x) ∷ filled v feats fs (drop 1 own)) (own_first v own n h)
    ∙ ap (λ xs. (f, value_under v n) ∷ xs) (rest (drop 1 own) (n + 1) (own_next v own n h))
filled_at v own feats f fs n (Some t) h rest = ap (λ xs. (f, term_value v t) ∷ xs) (rest own n h)

pub filled_is : (v own : Binds) (feats : List (ℕ × Term)) (fs : List ℕ) (n : ℕ) → OwnFrom v own n → filled v feats fs own ≡ feats_under v (completed feats fs n)
filled_is v own feats [] n h = refl
filled_is v own feats (f ∷ fs) n h =
    filled_at v own feats f fs n (looked_up feats f) h (λ own2 m k. filled_is v own2 feats fs m k)

entry_of : ℕ → List (ℕ × Value) → ℕ → Bool → Entry
entry_of name vals place strong = introduced (record { name = name; vals = vals }) place strong

introduced_to : (v : Binds) (name : ℕ) (feats : List (ℕ × Term)) (strong : Bool) (state : State) (after : At) (bs : List Binds) → Each (KnownAll feats) bs
    → AnyExtends v bs → after ≡ entered (at_of state) (introduced (record { name = name; vals = feats_under v feats }) state.place strong)
    → Covers v after (map (introduced_state name feats strong state) bs)
introduced_to v name feats strong state after [] known h e = absurd h
introduced_to v name feats strong state after (b ∷ bs) known (inl h) e =
    inl (
      h,
      ap (λ vals. entered (at_of state) (introduced (record { name = name; vals = vals }) state.place strong)) (sym (feats_same v b feats h known.0))
          ∙ sym e,
    )
introduced_to v name feats strong state after (b ∷ bs) known (inr h) e = inr (introduced_to v name feats strong state after bs known.1 h e)

introduced_from : (v : Binds) (name : ℕ) (feats : List (ℕ × Term)) (strong : Bool) (state : State) (after : At) (bs : List Binds) → Each (KnownAll feats) bs
    → Covers v after (map (introduced_state name feats strong state) bs)
    → AnyExtends v bs × (after ≡ entered (at_of state) (introduced (record { name = name; vals = feats_under v feats }) state.place strong))
introduced_from v name feats strong state after [] known h = absurd h
introduced_from v name feats strong state after (b ∷ bs) known (inl h) = (
  inl h.0,
  sym h.1 ∙ ap (λ vals. entered (at_of state) (introduced (record { name = name; vals = vals }) state.place strong))
      (sym (feats_same v b feats h.0 known.0)),
)
introduced_from v name feats strong state after (b ∷ bs) known (inr h) =
    let r = introduced_from v name feats strong state after bs known.1 h in (inr r.0, r.1)

introducing_to : (s : Setting) (choices : Term → List Value) (n : ℕ) (v own : Binds) (c : Category) (strong : Bool) (state : State) (after : At)
    → Chosen choices v → OwnFrom v own n → Extends v state.binds → after ≡ entered (at_of state) (introduced (referent s.grammar v c own) state.place strong)
    → Covers v after (introducing s choices n c strong state)
introducing_to s choices n v own c strong state after chosen from h e =
    let feats = completed c.feats (features_of s.grammar c.name) n in
    introduced_to v c.name feats strong state after (closing choices feats (state.binds ∷ [])) (closing_known choices feats (state.binds ∷ []))
    (closing_to choices v feats (state.binds ∷ []) chosen (inl h))
    (e ∙ ap (λ vals. entered (at_of state) (introduced (record { name = c.name; vals = vals }) state.place strong))
    (filled_is v own c.feats (features_of s.grammar c.name) n from))

introducing_from : (s : Setting) (choices : Term → List Value) (n : ℕ) (v own : Binds) (c : Category) (strong : Bool) (state : State) (after : At)
    → OwnFrom v own n → Covers v after (introducing s choices n c strong state)
    → Extends v state.binds × (after ≡ entered (at_of state) (introduced (referent s.grammar v c own) state.place strong))
introducing_from s choices n v own c strong state after from h =
    let feats = completed c.feats (features_of s.grammar c.name) n in
    let r = introduced_from v c.name feats strong state after (closing choices feats (state.binds ∷ [])) (closing_known choices feats (state.binds ∷ [])) h in (
      single v state.binds (closing_from choices v feats (state.binds ∷ []) r.0),
      r.1 ∙ ap (λ vals. entered (at_of state) (introduced (record { name = c.name; vals = vals }) state.place strong))
          (sym (filled_is v own c.feats (features_of s.grammar c.name) n from)),
    )

-- references

marked_is : (v vals : Binds) (taken : List (ℕ × ℕ))
    → list_all (has_value vals) (feats_under v (map marked taken)) ≡ list_all (λ t. has_value vals (t.0, value_under v t.1)) taken
marked_is v vals [] = refl
marked_is v vals (t ∷ ts) = ap (λ b. has_value vals (t.0, value_under v t.1) && b) (marked_is v vals ts)

taking_to : (v b : Binds) (referent : Ground) (o : Option Pattern) → Extends v b → takes v referent o ≡ true → AnyExtends v (taking referent b o)
taking_to v b referent None h t = absurd (cc)
taking_to v b referent (Some p) h t = having_to v referent.vals (map marked p.taken) (b ∷ []) (inl h) (marked_is v referent.vals p.taken ∙ t)

taking_from : (v b : Binds) (referent : Ground) (o : Option Pattern) → AnyExtends v (taking referent b o) → Extends v b × (takes v referent o ≡ true)
taking_from v b referent None h = absurd h
taking_from v b referent (Some p) h =
    let r = having_from v referent.vals (map marked p.taken) (b ∷ []) h in
    (single v b r.0, sym (marked_is v referent.vals p.taken) ∙ r.1)

pub reference_same : (v b : Binds) (positive negative : List Pattern) → Extends v b → KnownPatterns positive b × KnownPatterns negative b
    → reference_tests v positive negative ≡ reference_tests b positive negative
reference_same v b positive negative h k =
    ap (λ x. record { positive = x; negative = tests_under v negative }) (tests_same v b positive h k.0)
    ∙ ap (λ x. record { positive = tests_under b positive; negative = x }) (tests_same v b negative h k.1)

refer_to : (v : Binds) (positive negative : List Pattern) (list : List Entry) (bs : List Binds) (finding : Finding)
    → Each (λ b. KnownPatterns positive b × KnownPatterns negative b) bs → AnyExtends v bs → Finds v (Back positive negative) finding list
    → AnyExtends v (refer positive negative list bs)
refer_to v positive negative list [] finding known h f = absurd h
refer_to v positive negative list (b ∷ bs) finding known (inl h) f =
    any_left v (finding_binds positive b (closest_finding (reference_tests b positive negative) list)) (refer positive negative list bs)
    (subst (λ o. AnyExtends v (finding_binds positive b o)) (sym f.0 ∙ ap (λ t. closest_finding t list) (reference_same v b positive negative h known.0))
    (taking_to v b finding.referent (slice_get positive finding.pattern) h f.1))
refer_to v positive negative list (b ∷ bs) finding known (inr h) f =
    any_right v (finding_binds positive b (closest_finding (reference_tests b positive negative) list)) (refer positive negative list bs)
    (refer_to v positive negative list bs finding known.1 h f)

finding_from : (v b : Binds) (positive negative : List Pattern) (list : List Entry) (o : Option Finding)
    → closest_finding (reference_tests b positive negative) list ≡ o → KnownPatterns positive b × KnownPatterns negative b
    → AnyExtends v (finding_binds positive b o) → Extends v b × ((finding : Finding) × Finds v (Back positive negative) finding list)
finding_from v b positive negative list None e k h = absurd h
finding_from v b positive negative list (Some f) e k h =
    let r = taking_from v b f.referent (slice_get positive f.pattern) h in
    (r.0, (f, (ap (λ t. closest_finding t list) (reference_same v b positive negative r.0 k) ∙ e, r.1)))

refer_from : (v : Binds) (positive negative : List Pattern) (list : List Entry) (bs : List Binds)
    → Each (λ b. KnownPatterns positive b × KnownPatterns negative b) bs → AnyExtends v (refer positive negative list bs)
    → AnyExtends v bs × ((finding : Finding) × Finds v (Back positive negative) finding list)
refer_from v positive negative list [] known h = absurd h
refer_from v positive negative list (b ∷ bs) known h =
    either (λ a. let r = finding_from v b positive negative list (closest_finding (reference_tests b positive negative) list) refl known.0 a in (inl r.0, r.1))
    (λ a. let r = refer_from v positive negative list bs known.1 a in (inr r.0, r.1))
    (any_append v (finding_binds positive b (closest_finding (reference_tests b positive negative) list)) (refer positive negative list bs) h)

none_to : (v : Binds) (patterns : List Pattern) (list : List Entry) (bs : List Binds) → Each (KnownPatterns patterns) bs → AnyExtends v bs
    → list_any (is_agreeing (tests_under v patterns)) list ≡ false → AnyExtends v (refer_none patterns list bs)
none_to v patterns list [] known h f = absurd h
none_to v patterns list (b ∷ bs) known (inl h) f =
    any_left v (if list_any (is_agreeing (tests_under b patterns)) list then [] else b ∷ []) (refer_none patterns list bs)
    (subst (λ t. AnyExtends v (if t then [] else b ∷ [])) (sym f ∙ ap (λ ts. list_any (is_agreeing ts) list) (tests_same v b patterns h known.0)) (inl h))
none_to v patterns list (b ∷ bs) known (inr h) f =
    any_right v (if list_any (is_agreeing (tests_under b patterns)) list then [] else b ∷ []) (refer_none patterns list bs)
    (none_to v patterns list bs known.1 h f)

none_one : (v b : Binds) (patterns : List Pattern) (list : List Entry) (t : Bool) → list_any (is_agreeing (tests_under b patterns)) list ≡ t
    → KnownPatterns patterns b → AnyExtends v (if t then [] else b ∷ []) → Extends v b × (list_any (is_agreeing (tests_under v patterns)) list ≡ false)
none_one v b patterns list true e k h = absurd h
none_one v b patterns list false e k h =
    let x = single v b h in (x, ap (λ ts. list_any (is_agreeing ts) list) (tests_same v b patterns x k) ∙ e)

none_from : (v : Binds) (patterns : List Pattern) (list : List Entry) (bs : List Binds) → Each (KnownPatterns patterns) bs
    → AnyExtends v (refer_none patterns list bs) → AnyExtends v bs × (list_any (is_agreeing (tests_under v patterns)) list ≡ false)
none_from v patterns list [] known h = absurd h
none_from v patterns list (b ∷ bs) known h =
    either (λ a. let r = none_one v b patterns list (list_any (is_agreeing (tests_under b patterns)) list) refl known.0 a in (inl r.0, r.1))
    (λ a. let r = none_from v patterns list bs known.1 a in (inr r.0, r.1))
    (any_append v (if list_any (is_agreeing (tests_under b patterns)) list then [] else b ∷ []) (refer_none patterns list bs) h)

-- assignments under which the tests of a reference are known
both_known : (choices : Term → List Value) (positive negative : List Pattern) (b : Binds)
    → Each (λ c. KnownPatterns positive c × KnownPatterns negative c) (closing_patterns choices negative (closing_patterns choices positive (b ∷ [])))
both_known choices positive negative b =
    let bs = closing_patterns choices positive (b ∷ []) in
    each_both (KnownPatterns positive) (KnownPatterns negative) (closing_patterns choices negative bs)
    (closing_patterns_keeps (KnownPatterns positive) (patterns_stay positive) choices negative bs (closing_patterns_known choices positive (b ∷ [])))
    (closing_patterns_known choices negative bs)

-- the element leads to where a state after it stands
pub plain_to : (s : Setting) (choices : Term → List Value) (n : ℕ) (v own : Binds) (e : Element) (state : State) (after : At) → is_sub e ≡ false
    → Chosen choices v → OwnFrom v own n → Extends v state.binds → ElementLeads s v own e (at_of state) after → Covers v after (plain_steps s choices n e state)
plain_to s choices n v own (Terminal t) state after plain chosen from h l =
    subst (λ b. Covers v after (if b then placed (state.place + 1) state.list (state.binds ∷ []) else [])) (sym l.0) (inl (h, sym l.1))
plain_to s choices n v own (Preterminal c) state after plain chosen from h l =
    placed_to v (state.place + 1) state.list after _
    (read_all_to v state.binds c (readings_at s state.place) h (sym (matches_is s (under v c) state.place) ∙ l.0)) l.1
plain_to s choices n v own (Sub c) state after plain chosen from h l = absurd (cc)
plain_to s choices n v own (Position x) state after plain chosen from h l =
    placed_to v state.place state.list after _ (restricted_to v (Var x) (Pos state.place ∷ []) (state.binds ∷ []) (inl h) (inl (sym l.0))) l.1
plain_to s choices n v own Opener state after plain chosen from h l = inl (h, sym l)
plain_to s choices n v own (Forward c) state after plain chosen from h l = introducing_to s choices n v own c false state after chosen from h l
plain_to s choices n v own (Strong c) state after plain chosen from h l = introducing_to s choices n v own c true state after chosen from h l
plain_to s choices n v own (Back positive negative) state after plain chosen from h l =
    placed_to v state.place state.list after _
    (refer_to v positive negative state.list _ l.0.0 (both_known choices positive negative state.binds)
    (closing_patterns_to choices v negative _ chosen (closing_patterns_to choices v positive (state.binds ∷ []) chosen (inl h))) l.0.1) l.1
plain_to s choices n v own (NoBack patterns) state after plain chosen from h l =
    placed_to v state.place state.list after _
    (none_to v patterns state.list _ (closing_patterns_known choices patterns (state.binds ∷ []))
    (closing_patterns_to choices v patterns (state.binds ∷ []) chosen (inl h)) l.0) l.1

one_only : (x y : Value) → OneOf (x ∷ []) y → y ≡ x
one_only x y (inl e) = sym e
one_only x y (inr e) = absurd e

-- a state after the element stands where it leads
pub plain_from : (s : Setting) (choices : Term → List Value) (n : ℕ) (v own : Binds) (e : Element) (state : State) (after : At) → OwnFrom v own n
    → Covers v after (plain_steps s choices n e state) → Extends v state.binds × ElementLeads s v own e (at_of state) after
plain_from s choices n v own (Terminal t) state after from h = at (matches_terminal s t state.place) refl h
  where
    at : (b : Bool) → matches_terminal s t state.place ≡ b → Covers v after (if b then placed (state.place + 1) state.list (state.binds ∷ []) else [])
        → Extends v state.binds × ElementLeads s v own (Terminal t) (at_of state) after
    at true e h = let r = placed_from v (state.place + 1) state.list after (state.binds ∷ []) h in (single v state.binds r.0, (e, r.1))
    at false e h = absurd h
plain_from s choices n v own (Preterminal c) state after from h =
    let r = placed_from v (state.place + 1) state.list after (read_all c state.binds (readings_at s state.place)) h in
    let one = read_all_from v state.binds c (readings_at s state.place) r.0 in
    (one.0, (matches_is s (under v c) state.place ∙ one.1, r.1))
plain_from s choices n v own (Sub c) state after from h = absurd h
plain_from s choices n v own (Position x) state after from h =
    let r = placed_from v state.place state.list after (restricted (Var x) (Pos state.place ∷ []) (state.binds ∷ [])) h in
    let one = restricted_from v (Var x) (Pos state.place ∷ []) (state.binds ∷ []) r.0 in
    (single v state.binds one.0, (one_only (Pos state.place) (value_under v x) one.1, r.1))
plain_from s choices n v own Opener state after from h =
    let r = placed_from v state.place (state.list ++ entry.Opener ∷ []) after (state.binds ∷ []) h in (single v state.binds r.0, r.1)
plain_from s choices n v own (Forward c) state after from h = introducing_from s choices n v own c false state after from h
plain_from s choices n v own (Strong c) state after from h = introducing_from s choices n v own c true state after from h
plain_from s choices n v own (Back positive negative) state after from h =
    let bs = closing_patterns choices negative (closing_patterns choices positive (state.binds ∷ [])) in
    let r = placed_from v state.place state.list after (refer positive negative state.list bs) h in
    let found = refer_from v positive negative state.list bs (both_known choices positive negative state.binds) r.0 in
    (single v state.binds (closing_patterns_from choices v positive (state.binds ∷ []) (closing_patterns_from choices v negative _ found.0)), (found.1, r.1))
plain_from s choices n v own (NoBack patterns) state after from h =
    let bs = closing_patterns choices patterns (state.binds ∷ []) in
    let r = placed_from v state.place state.list after (refer_none patterns state.list bs) h in
    let one = none_from v patterns state.list bs (closing_patterns_known choices patterns (state.binds ∷ [])) r.0 in
    (single v state.binds (closing_patterns_from choices v patterns (state.binds ∷ []) one.0), (one.1, r.1))

-- The ends of categories, by the ends of rules, and the states after a category, by its ends.
use Rattle.std.proofs.Common.{◌≡◌, ℕ, suc, zero, ◌+◌, ◌-◌, ◌<◌, ◌≤◌, List, [], ◌∷◌, ◌++◌, Bool, true, false, ◌&&◌, ◌||◌, length, drop, Option, Some, None, refl, sym, ap, ◌∙◌, subst, arith, ◌⊎◌, inl, inr, append_assoc, nat_lt}
use Rattle.std.specs.Prelude.{if◌then◌else◌, ◌==◌, not, option_map, unwrap_or, slice_get}
use Rattle.std.specs.List.{list_all, cons_option, flat_map}
use Rattle.std.proofs.lemmas.Bool.Decides.{nat_tests}
use Rattle.std.proofs.lemmas.Option.{same_Some, slice_get_within}
use Rattle.codeco_terms.specs.declared.values.Value.{Value}
use Rattle.codeco_terms.specs.declared.values.Value.TheVariants.{Atom, Word, Pos}
use Rattle.codeco_terms.specs.declared.values.Term.{Term}
use Rattle.codeco_terms.specs.declared.values.Term.TheVariants.{Val, Var}
use Rattle.codeco_terms.specs.declared.categories.Category.{Category}
use Rattle.codeco_terms.specs.declared.elements.Element.{Element}
use Rattle.codeco_terms.specs.declared.elements.Element.TheVariants.{Terminal, Preterminal, Sub, Position, Opener, Forward, Strong, Back, NoBack}
use Rattle.codeco_terms.specs.declared.rules.Rule.{Rule}
use Rattle.codeco_terms.specs.Values.{same_value}
use Rattle.scopes.specs.declared.entries.Entry.{Entry}
use Rattle.scopes.specs.declared.entries.Entry.TheVariants as entry
use Rattle.scopes.specs.declared.agreement.Test.{Test}
use Rattle.scopes.specs.AccessList.{closed, introduced}
use Rattle.derivation_trees.specs.Settings.{Setting}
use Rattle.derivation_trees.specs.Instances.{value_under, term_value, under, feats_under, is_instance, own_values, own_features, variables_of}
use Rattle.derivation_trees.specs.Derives.{At, fits, same_where_both, rule_with, list_after, referent}
use Rattle.chart_table.specs.declared.states.State.{State}
use Rattle.chart_table.specs.declared.states.End.{End}
use Rattle.chart_table.specs.Leading.{Leads, ElementLeads, Path, own_past}
use Rattle.scopes.specs.AccessList.{referents}
use Rattle.chart_table.proofs.RuleLeading.{closed_at}
use Rattle.chart_table.specs.Branches.{OneOf, Extends, AnyExtends, meeting, closing, known_value, known_features}
use Rattle.chart_table.specs.Steps.{at_of, Covers, placed, sub_steps, starting, plain_steps}
use Rattle.chart_table.specs.Choices.{choices_in}
use Rattle.chart_table.specs.Ends.{end_at, end_head, IsEnds, left_of, EndsAt, Agrees, HasRuleEnds, CoversPath, LeadsFrom, values_of_all, as_terms, has_values, end_with, finished_one, finished, HasMore, OwnFrom, IsStep, AreSteps, HasFinished, HasEndsOfRule}
use Rattle.chart_table.proofs.EndsUpTo.{IsEndOf, HasEndsTo, AreReached, AreLast, HasEndsUpTo}
use Rattle.chart_table.proofs.PassLemmas.{both_true, same_value-refl, rule_of_leads, leads_of_rule}
use Rattle.chart_table.proofs.OpenerLemmas.{leads_alike, referents-twice}
use Rattle.chart_table.proofs.BranchLemmas.{Binds, either, Each, KnownAll, closing_known, closing_to, closing_from, meeting_to, meeting_from, single, known_same}
use Rattle.derivation_trees.specs.Stands.{is_sub}
use Rattle.std.proofs.Math.Seq.{drop-nil, drop-append_seam}
use Rattle.std.proofs.lemmas.Bool.{eqb-true, and_from}
use Rattle.std.proofs.lemmas.List.{append_cancel_left}
use Rattle.wiki_base.proofs.NumberLaws.{eqb_refl}
use Rattle.derivation_trees.proofs.ValueLemmas.{same_value_is}
use Rattle.chart_table.proofs.OneOfLemmas.{one_front, one_last, one_right}
use Rattle.chart_table.proofs.StepLemmas.{covers_left, covers_right, covers_append, placed_to, placed_from, plain_to, plain_from}
use Rattle.chart_table.proofs.ChoiceLemmas.{chosen, instance_back, parts_of, own_from_drop}

-- the list only grows on a path

element_grows : (s : Setting) (v own : Binds) (e : Element) (at after : At) → ElementLeads s v own e at after
    → (added : List Entry) × (after.list ≡ at.list ++ added)
element_grows s v own (Terminal t) at after h = ([], ap (λ a. a.list) h.1 ∙ sym (append_nothing at.list))
  where
    append_nothing : (xs : List Entry) → xs ++ [] ≡ xs
    append_nothing [] = refl
    append_nothing (x ∷ xs) = ap (λ ys. x ∷ ys) (append_nothing xs)
element_grows s v own (Preterminal c) at after h = ([], ap (λ a. a.list) h.1 ∙ sym (append_nothing at.list))
  where
    append_nothing : (xs : List Entry) → xs ++ [] ≡ xs
    append_nothing [] = refl
    append_nothing (x ∷ xs) = ap (λ ys. x ∷ ys) (append_nothing xs)
element_grows s v own (Sub c) at after h =
    let r = leads_alike s (under v c) at.place at.list at.list after refl h in (r.0, r.1)
element_grows s v own (Position x) at after h = ([], ap (λ a. a.list) h.1 ∙ sym (append_nothing at.list))
  where
    append_nothing : (xs : List Entry) → xs ++ [] ≡ xs
    append_nothing [] = refl
    append_nothing (x ∷ xs) = ap (λ ys. x ∷ ys) (append_nothing xs)
element_grows s v own Opener at after h = (entry.Opener ∷ [], ap (λ a. a.list) h)
element_grows s v own (Forward c) at after h = (introduced (referent s.grammar v c own) at.place false ∷ [], ap (λ a. a.list) h)
element_grows s v own (Strong c) at after h = (introduced (referent s.grammar v c own) at.place true ∷ [], ap (λ a. a.list) h)
element_grows s v own (Back positive negative) at after h = ([], ap (λ a. a.list) h.1 ∙ sym (append_nothing at.list))
  where
    append_nothing : (xs : List Entry) → xs ++ [] ≡ xs
    append_nothing [] = refl
    append_nothing (x ∷ xs) = ap (λ ys. x ∷ ys) (append_nothing xs)
element_grows s v own (NoBack patterns) at after h = ([], ap (λ a. a.list) h.1 ∙ sym (append_nothing at.list))
  where
    append_nothing : (xs : List Entry) → xs ++ [] ≡ xs
    append_nothing [] = refl
    append_nothing (x ∷ xs) = ap (λ ys. x ∷ ys) (append_nothing xs)

pub path_grows : (s : Setting) (v own : Binds) (es : List Element) (at after : At) → Path s v own es at after
    → (added : List Entry) × (after.list ≡ at.list ++ added)
path_grows s v own [] at after h = ([], ap (λ a. a.list) (sym h) ∙ sym (append_nothing at.list))
  where
    append_nothing : (xs : List Entry) → xs ++ [] ≡ xs
    append_nothing [] = refl
    append_nothing (x ∷ xs) = ap (λ ys. x ∷ ys) (append_nothing xs)
path_grows s v own (e ∷ es) at after h =
    let one = element_grows s v own e at h.0 h.1 in
    let rest = path_grows s v (own_past s e own) es h.0 after h.2 in
    (one.0 ++ rest.0, rest.1 ∙ ap (λ l. l ++ rest.0) one.1 ∙ append_assoc at.list one.0 rest.0)

-- the place and list after a phrase are those of its end
closed_end : (rule : Rule) (v : Binds) (at last : At) (e : End) (added : List Entry) → last.list ≡ at.list ++ added → EndsAt rule v at.list last e
    → closed_at rule at.list last ≡ end_at at e
closed_end rule v at last e added grown h =
    let tail : e.tail ≡ left_of rule added =
    h.tail ∙ ap (λ l. left_of rule (drop (length at.list) l)) grown ∙ ap (left_of rule) (drop-append_seam at.list added) in
    ap (λ p. record { place = p; list = list_after rule.closing at.list last.list }) (sym h.place)
    ∙ ap (λ l. record { place = e.place; list = l })
    (ap (list_after rule.closing at.list) grown ∙ by_closing rule.closing ∙ ap (λ t. at.list ++ t) (sym tail))
  where
    by_closing : (b : Bool) → list_after b at.list (at.list ++ added) ≡ at.list ++ (if b then closed added else added)
    by_closing true = ap (λ l. at.list ++ closed l) (drop-append_seam at.list added)
    by_closing false = refl

-- heads

all_same : (p : ℕ × Value) (q : ℕ × Value) → same_where_both p q ≡ same_where_both q p
all_same p q = by_number (p.0 == q.0) (q.0 == p.0) (swap p.0 q.0)
  where
    swap : (a b : ℕ) → (a == b) ≡ (b == a)
    swap a b = grind (arith, nat_tests)

    swap_value : (x y : Value) → same_value x y ≡ same_value y x
    swap_value (Atom a) (Atom b) = swap a b
    swap_value (Atom a) (Word w) = refl
    swap_value (Atom a) (Pos n) = refl
    swap_value (Word w) (Atom b) = refl
    swap_value (Word w) (Word u) = swap w.0 u.0
    swap_value (Word w) (Pos n) = refl
    swap_value (Pos n) (Atom b) = refl
    swap_value (Pos n) (Word u) = refl
    swap_value (Pos n) (Pos m) = swap n m

    by_number : (a b : Bool) → a ≡ b → (not a || same_value p.1 q.1) ≡ (not b || same_value q.1 p.1)
    by_number a b e = ap (λ t. not t || same_value p.1 q.1) e ∙ ap (λ t. not b || t) (swap_value p.1 q.1)

-- what each has with each of the others
all_at : {X : Type 0} (t : X → Bool) (xs : List X) (x : X) → list_all t xs ≡ true → OneOf xs x → t x ≡ true
all_at t [] x h o = absurd o
all_at t (y ∷ ys) x h (inl e) = both_true (t y) (list_all t ys) h (λ one rest. ap t (sym e) ∙ one)
all_at t (y ∷ ys) x h (inr o) = both_true (t y) (list_all t ys) h (λ one rest. all_at t ys x rest o)

all_from : {X : Type 0} (t : X → Bool) (xs : List X) → ((x : X) → OneOf xs x → t x ≡ true) → list_all t xs ≡ true
all_from t [] h = refl
all_from t (y ∷ ys) h = and_from (t y) (list_all t ys) (h y (inl refl)) (all_from t ys (λ x o. h x (inr o)))

-- an instance whose head fits a category with the known values agrees with them
pub agrees_known : (known : Binds) (rule : Rule) (v : Binds) (asked : Test) → fits (under v rule.head) asked ≡ true
    → ((p : ℕ × Value) → OneOf known p → OneOf asked.values p) → Agrees known rule v
agrees_known known rule v asked h has =
    both_true (rule.head.name == asked.name) (list_all (λ p. list_all (same_where_both p) asked.values) (feats_under v rule.head.feats)) h (λ _ all.
    all_from (λ p. list_all (same_where_both p) (feats_under v rule.head.feats)) known (λ p o.
    all_from (same_where_both p) (feats_under v rule.head.feats) (λ q r.
    all_same p q ∙ all_at (same_where_both q) asked.values p (all_at (λ x. list_all (same_where_both x) asked.values) (feats_under v rule.head.feats) q all r)
    (has p o))))

head_is : (name : ℕ) (rule : Rule) (v : Binds) (e : End) (asked : Test) → rule.head.name ≡ name → e.values ≡ feats_under v rule.head.feats
    → fits (under v rule.head) asked ≡ fits (end_head name e) asked
head_is name rule v e asked n h =
    ap (λ m. fits (record { name = m; values = feats_under v rule.head.feats }) asked) n ∙ ap (λ f. fits (record { name = name; values = f }) asked) (sym h)

pub fits_name : (head asked : Test) → fits head asked ≡ true → head.name ≡ asked.name
fits_name head asked h = both_true (head.name == asked.name) (list_all (λ p. list_all (same_where_both p) asked.values) head.values) h
    (λ n _. eqb-true head.name asked.name n)

pub rule_number : (s : Setting) (number : ℕ) (rule : Rule) → rule_with s.grammar number ≡ Some rule → number ≤ length s.grammar.rules
rule_number s zero rule h = omega arith
rule_number s (suc n) rule h = by_none (suc n == 0) refl h
  where
    minus : suc n - 1 ≡ n
    minus = omega arith

    by_none : (b : Bool) → (suc n == 0) ≡ b → (if b then None else slice_get s.grammar.rules (suc n - 1)) ≡ Some rule → suc n ≤ length s.grammar.rules
    by_none true e h = absurd (cc)
    by_none false e h = let lt = slice_get_within s.grammar.rules (suc n - 1) rule h in omega arith

-- the ends of all rules with the name are the ends of the category
pub ends_of_rules : (s : Setting) (name : ℕ) (known : Binds) (at : At) (ends : List End) → ((e : End) → OneOf ends e → IsEndOf s name at e)
    → HasEndsTo s name known at (length s.grammar.rules) ends → IsEnds s name known at ends
ends_of_rules s name known at ends sound has = record {
  sound = λ e o asked named h.
      let r = sound e o in
      let end = r.ends in
      let grown = path_grows s end.values (own_values r.rule end.values) r.rule.body at end.last end.path in
      leads_of_rule s asked at (end_at at e) r.number r.rule end.values r.has (record {
        instance = end.instance;
        head = head_is name r.rule end.values e asked r.named end.ends.head ∙ h;
        last = end.last;
        path = end.path;
        end = sym (closed_end r.rule end.values at end.last e grown.0 grown.1 end.ends);
      });
  complete = λ asked after named known_in leads.
      let r = rule_of_leads s asked at after leads in
      let l = r.leads in
      let name_is : r.rule.head.name ≡ name = fits_name (under r.values r.rule.head) asked l.head ∙ named in
      let found = has r.number r.rule r.has (rule_number s r.number r.rule r.has) name_is r.values l.last l.instance
      (agrees_known known r.rule r.values asked l.head known_in) l.path in
      let grown = path_grows s r.values (own_values r.rule r.values) r.rule.body at l.last l.path in (
        found.0,
        found.1,
        sym (head_is name r.rule r.values found.0 asked name_is found.2.head) ∙ l.head,
        l.end ∙ closed_end r.rule r.values at l.last found.0 grown.0 grown.1 found.2,
      );
}

-- the states after a category

-- known values are those of the category in the instance
pub known_in_feats : (v b : Binds) (feats : List (ℕ × Term)) (p : ℕ × Value) → Extends v b → OneOf (known_features b feats) p → OneOf (feats_under v feats) p
known_in_feats v b [] p h o = absurd o
known_in_feats v b (q ∷ feats) p h o = at (known_in_feats v b feats p h) (known_value b q.1) refl o
  where
    same : (value : Value) → known_value b q.1 ≡ Some value → term_value v q.1 ≡ value
    same value e = known_same v b q.1 h (value, e) ∙ value_is q.1 value e
      where
        value_is : (term : Term) (value : Value) → known_value b term ≡ Some value → term_value b term ≡ value
        value_is (Val w) value e = same_Some w value e
        value_is (Var x) value e = ap (λ o. unwrap_or o (Atom 0)) e

    at : (OneOf (known_features b feats) p → OneOf (feats_under v feats) p) → (o : Option Value) → known_value b q.1 ≡ o
        → OneOf (cons_option (option_map (λ w. (q.0, w)) o) (known_features b feats)) p → OneOf ((q.0, term_value v q.1) ∷ feats_under v feats) p
    at rest None e o = inr (rest o)
    at rest (Some value) e (inl is) = inl (ap (λ w. (q.0, w)) (same value e) ∙ is)
    at rest (Some value) e (inr o) = inr (rest o)

pub fits_all : (name : ℕ) (c : Category) (v : Binds) (e : End) → fits (end_head name e) (under v c) ≡ true
    → list_all (λ p. list_all (same_where_both p) (feats_under v c.feats)) e.values ≡ true
fits_all name c v e h = both_true (name == c.name) (list_all (λ p. list_all (same_where_both p) (feats_under v c.feats)) e.values) h (λ _ all. all)

pub sub_covers : (v : Binds) (c : Category) (state : State) (e : End) (ends : List End) (after : At) → OneOf ends e → Extends v state.binds
    → list_all (λ p. list_all (same_where_both p) (feats_under v c.feats)) e.values ≡ true → after ≡ record { place = e.place; list = state.list ++ e.tail }
    → Covers v after (sub_steps c state ends)
sub_covers v c state e [] after o h t is = absurd o
sub_covers v c state e (x ∷ ends) after (inl same) h t is =
    covers_left v after (placed x.place (state.list ++ x.tail) (meeting x.values c.feats (state.binds ∷ []))) (sub_steps c state ends)
    (subst (λ y. Covers v after (placed y.place (state.list ++ y.tail) (meeting y.values c.feats (state.binds ∷ [])))) (sym same)
    (placed_to v e.place (state.list ++ e.tail) after (meeting e.values c.feats (state.binds ∷ []))
    (meeting_to v e.values c.feats (state.binds ∷ []) (inl h) t) is))
sub_covers v c state e (x ∷ ends) after (inr o) h t is =
    covers_right v after (placed x.place (state.list ++ x.tail) (meeting x.values c.feats (state.binds ∷ []))) (sub_steps c state ends)
    (sub_covers v c state e ends after o h t is)

pub sub_from : (v : Binds) (c : Category) (state : State) (ends : List End) (after : At) → Covers v after (sub_steps c state ends)
    → Extends v state.binds × ((e : End) × OneOf ends e × (list_all (λ p. list_all (same_where_both p) (feats_under v c.feats)) e.values ≡ true)
    × (after ≡ record { place = e.place; list = state.list ++ e.tail }))
sub_from v c state [] after h = absurd h
sub_from v c state (x ∷ ends) after h =
    either (λ a.
    let r = placed_from v x.place (state.list ++ x.tail) after (meeting x.values c.feats (state.binds ∷ [])) a in
    let m = meeting_from v x.values c.feats (state.binds ∷ []) r.0 in
    (single v state.binds m.0, (x, inl refl, m.1, r.1))) (λ a.
    let r = sub_from v c state ends after a in (r.0, (r.1.0, inr r.1.1, r.1.2, r.1.3)))
    (covers_append v after (placed x.place (state.list ++ x.tail) (meeting x.values c.feats (state.binds ∷ []))) (sub_steps c state ends) h)

-- the place, with the list without openers
abbrev pub stripped : State → At
stripped state = record { place = state.place; list = referents state.list }

pub sub_to : (s : Setting) (v : Binds) (c : Category) (state : State) (ends : List End) (after : At)
    → IsEnds s c.name (known_features state.binds c.feats) (stripped state) ends → Extends v state.binds → Leads s (under v c) (at_of state) after
    → Covers v after (sub_steps c state ends)
sub_to s v c state ends after is h leads =
    let alike = leads_alike s (under v c) state.place state.list (referents state.list) after (sym (referents-twice state.list)) leads in
    let found = is.complete (under v c) _ refl (λ p o. known_in_feats v state.binds c.feats p h o) alike.2 in
    let place_is : after.place ≡ found.0.place = ap (λ a. a.place) found.3 in
    let tail_is : alike.0 ≡ found.0.tail = append_cancel_left (referents state.list) alike.0 found.0.tail (ap (λ a. a.list) found.3) in
    sub_covers v c state found.0 ends after found.1 h (fits_all c.name c v found.0 found.2)
    (ap (λ p. record { place = p; list = after.list }) place_is
    ∙ ap (λ l. record { place = found.0.place; list = l }) (alike.1 ∙ ap (λ t. state.list ++ t) tail_is))

pub sub_back : (s : Setting) (v : Binds) (c : Category) (state : State) (ends : List End) (after : At)
    → IsEnds s c.name (known_features state.binds c.feats) (stripped state) ends → Covers v after (sub_steps c state ends)
    → Extends v state.binds × Leads s (under v c) (at_of state) after
sub_back s v c state ends after is h =
    let r = sub_from v c state ends after h in
    let e = r.1.0 in
    let leads = is.sound e r.1.1 (under v c) refl
    (and_from (c.name == c.name) (list_all (λ p. list_all (same_where_both p) (feats_under v c.feats)) e.values) (eqb_refl c.name) r.1.2) in
    let alike = leads_alike s (under v c) state.place (referents state.list) state.list _ (referents-twice state.list) leads in
    let tail_is : e.tail ≡ alike.0 = append_cancel_left (referents state.list) e.tail alike.0 alike.1 in
    (r.0, subst (Leads s (under v c) (at_of state)) (ap (λ t. record { place = e.place; list = state.list ++ t }) (sym tail_is) ∙ sym r.1.3) alike.2)

-- paths

pub path_to : (s : Setting) (v own : Binds) (es : List Element) (last between : At) (states : List State) → Covers v between states
    → Path s v own es between last → CoversPath s v own es last states
path_to s v own es last between [] h p = absurd h
path_to s v own es last between (x ∷ xs) (inl h) p = inl (h.0, subst (λ a. Path s v own es a last) (sym h.1) p)
path_to s v own es last between (x ∷ xs) (inr h) p = inr (path_to s v own es last between xs h p)

pub path_from : (s : Setting) (v own : Binds) (es : List Element) (last : At) (states : List State) → CoversPath s v own es last states
    → (between : At) × Covers v between states × Path s v own es between last
path_from s v own es last [] h = absurd h
path_from s v own es last (x ∷ xs) (inl h) = (at_of x, inl (h.0, refl), h.1)
path_from s v own es last (x ∷ xs) (inr h) = let r = path_from s v own es last xs h in (r.0, inr r.1, r.2)

leads_to_path : (s : Setting) (v own : Binds) (e : Element) (es : List Element) (last between : At) (states : List State) → LeadsFrom s v own e between states
    → Path s v (own_past s e own) es between last → CoversPath s v own (e ∷ es) last states
leads_to_path s v own e es last between [] h p = absurd h
leads_to_path s v own e es last between (x ∷ xs) (inl h) p = inl (h.0, (between, h.1, p))
leads_to_path s v own e es last between (x ∷ xs) (inr h) p = inr (leads_to_path s v own e es last between xs h p)

path_to_leads : (s : Setting) (v own : Binds) (e : Element) (es : List Element) (last : At) (states : List State) → CoversPath s v own (e ∷ es) last states
    → (between : At) × LeadsFrom s v own e between states × Path s v (own_past s e own) es between last
path_to_leads s v own e es last [] h = absurd h
path_to_leads s v own e es last (x ∷ xs) (inl h) = (h.1.0, inl (h.0, h.1.1), h.1.2)
path_to_leads s v own e es last (x ∷ xs) (inr h) = let r = path_to_leads s v own e es last xs h in (r.0, inr r.1, r.2)

-- one more element of a path
pub path_step : (s : Setting) (v own : Binds) (e : Element) (es : List Element) (last : At) (states news : List State)
    → ((after : At) → LeadsFrom s v own e after states → Covers v after news) → CoversPath s v own (e ∷ es) last states
    → CoversPath s v (own_past s e own) es last news
path_step s v own e es last states news covers h =
    let r = path_to_leads s v own e es last states h in
    path_to s v (own_past s e own) es last r.0 news (covers r.0 r.1) r.2

pub path_unstep : (s : Setting) (v own : Binds) (e : Element) (es : List Element) (last : At) (states news : List State)
    → ((after : At) → Covers v after news → LeadsFrom s v own e after states) → CoversPath s v (own_past s e own) es last news
    → CoversPath s v own (e ∷ es) last states
path_unstep s v own e es last states news covers h =
    let r = path_from s v (own_past s e own) es last news h in
    leads_to_path s v own e es last r.0 states (covers r.0 r.1) r.2

-- values of all variables

known_all_same : (v b : Binds) (xs : List ℕ) → Extends v b → KnownAll (as_terms xs) b → values_of_all b xs ≡ values_of_all v xs
known_all_same v b [] h k = refl
known_all_same v b (x ∷ xs) h k =
    ap (λ w. (x, w) ∷ values_of_all b xs) (sym (known_same v b (Var x) h k.0)) ∙ ap (λ ws. (x, value_under v x) ∷ ws) (known_all_same v b xs h k.1)

-- an assignment of all variables that an instance extends is the instance
pub all_known : (s : Setting) (rule : Rule) (v b : Binds) → is_instance s rule v ≡ true → Extends v b → KnownAll (as_terms (variables_of s.grammar rule)) b
    → values_of_all b (variables_of s.grammar rule) ≡ v
all_known s rule v b instance h k =
    known_all_same v b (variables_of s.grammar rule) h k ∙ instance_back s rule v instance

-- finished phrases

pub has_from : (v bound : Binds) → has_values v bound ≡ true → Extends v bound
has_from v [] h = tt
has_from v (p ∷ bound) h = both_true (same_value (value_under v p.0) p.1) (has_values v bound) h
    (λ a b. (same_value_is (value_under v p.0) p.1 a, has_from v bound b))

has_to : (v bound : Binds) → Extends v bound → has_values v bound ≡ true
has_to v [] h = refl
has_to v (p ∷ bound) h = and_from (same_value (value_under v p.0) p.1) (has_values v bound) (ap (λ x. same_value x p.1) h.0 ∙ same_value-refl p.1)
    (has_to v bound h.1)

-- what a finished phrase shows
pub record IsFinished (s : Setting) (rule : Rule) (before : List Entry) (state : State) (e : End) : Type 0 where
  pub values : Binds
  pub instance : is_instance s rule values ≡ true
  pub extends : Extends values state.binds
  pub is : end_with rule before state values ≡ e

abbrev flat_map_ends : Setting → Rule → List Entry → State → List ℕ → List Binds → List End
flat_map_ends s rule before state numbers bs = flat_map (finished_one s rule before state numbers) bs

finished_from : (s : Setting) (rule : Rule) (before : List Entry) (state : State) (numbers : List ℕ) (bs : List Binds) (e : End)
    → ((v : Binds) → AnyExtends v bs → Extends v state.binds) → OneOf (flat_map_ends s rule before state numbers bs) e → IsFinished s rule before state e
finished_from s rule before state numbers [] e ext o = absurd o
finished_from s rule before state numbers (b ∷ bs) e ext o =
    at (is_instance s rule (values_of_all b numbers)) (has_values (values_of_all b numbers) b) refl refl
    (finished_from s rule before state numbers bs e (λ v h. ext v (inr h))) o
  where
    at : (i h : Bool) → is_instance s rule (values_of_all b numbers) ≡ i → has_values (values_of_all b numbers) b ≡ h
        → (OneOf (flat_map_ends s rule before state numbers bs) e → IsFinished s rule before state e)
        → OneOf ((if i && h then end_with rule before state (values_of_all b numbers) ∷ [] else []) ++ flat_map_ends s rule before state numbers bs) e
        → IsFinished s rule before state e
    at true true i h rest (inl is) = record {
      values = values_of_all b numbers;
      instance = i;
      extends = ext (values_of_all b numbers) (inl (has_from (values_of_all b numbers) b h));
      is = is;
    }
    at true true i h rest (inr o) = rest o
    at true false i h rest o = rest o
    at false h i k rest o = rest o

finished_to : (s : Setting) (rule : Rule) (before : List Entry) (state : State) (bs : List Binds) (v : Binds) → is_instance s rule v ≡ true
    → Each (KnownAll (as_terms (variables_of s.grammar rule))) bs → AnyExtends v bs
    → OneOf (flat_map_ends s rule before state (variables_of s.grammar rule) bs) (end_with rule before state v)
finished_to s rule before state [] v i known h = absurd h
finished_to s rule before state (b ∷ bs) v i known (inl h) =
    let same : values_of_all b (variables_of s.grammar rule) ≡ v = all_known s rule v b i h known.0 in
    subst (λ w. OneOf ((if is_instance s rule w && has_values w b then end_with rule before state w ∷ [] else [])
    ++ flat_map_ends s rule before state (variables_of s.grammar rule) bs) (end_with rule before state v)) (sym same)
    (subst (λ t. OneOf ((if t then end_with rule before state v ∷ [] else []) ++ flat_map_ends s rule before state (variables_of s.grammar rule) bs)
    (end_with rule before state v)) (sym (and_from (is_instance s rule v) (has_values v b) i (has_to v b h))) (inl refl))
finished_to s rule before state (b ∷ bs) v i known (inr h) =
    one_right (end_with rule before state v) (finished_one s rule before state (variables_of s.grammar rule) b)
    (flat_map_ends s rule before state (variables_of s.grammar rule) bs) (finished_to s rule before state bs v i known.1 h)

pub finished_shows : (s : Setting) (rule : Rule) (before : List Entry) (state : State) (e : End) → OneOf (finished s rule before state) e
    → IsFinished s rule before state e
finished_shows s rule before state e o =
    finished_from s rule before state (variables_of s.grammar rule) (closing (choices_in s rule) (as_terms (variables_of s.grammar rule)) (state.binds ∷ [])) e
    (λ v h. single v state.binds (closing_from (choices_in s rule) v (as_terms (variables_of s.grammar rule)) (state.binds ∷ []) h)) o

pub shows_finished : (s : Setting) (rule : Rule) (before : List Entry) (state : State) (v : Binds) → is_instance s rule v ≡ true → Extends v state.binds
    → OneOf (finished s rule before state) (end_with rule before state v)
shows_finished s rule before state v i h =
    let terms = as_terms (variables_of s.grammar rule) in
    finished_to s rule before state (closing (choices_in s rule) terms (state.binds ∷ [])) v i (closing_known (choices_in s rule) terms (state.binds ∷ []))
    (closing_to (choices_in s rule) v terms (state.binds ∷ []) (chosen s rule v i) (inl h))

-- the ends of states that elements have led to

pub covers_one : (s : Setting) (rule : Rule) (v own : Binds) (last : At) (states : List State) → CoversPath s v own [] last states
    → (state : State) × OneOf states state × Extends v state.binds × (at_of state ≡ last)
covers_one s rule v own last [] h = absurd h
covers_one s rule v own last (x ∷ xs) (inl h) = (x, inl refl, h.0, h.1)
covers_one s rule v own last (x ∷ xs) (inr h) = let r = covers_one s rule v own last xs h in (r.0, inr r.1, r.2, r.3)

pub one_covers : (s : Setting) (v own : Binds) (state : State) (states : List State) → OneOf states state → Extends v state.binds
    → CoversPath s v own [] (at_of state) states
one_covers s v own state [] o h = absurd o
one_covers s v own state (x ∷ xs) (inl e) h = inl (subst (λ y. Extends v y.binds × (at_of y ≡ at_of state)) (sym e) (h, refl))
one_covers s v own state (x ∷ xs) (inr o) h = inr (one_covers s v own state xs o h)

-- the states at the start of a rule

starts_from : (s : Setting) (rule : Rule) (v : Binds) (known : Binds) (place : ℕ) (list : List Entry) (last : At)
    → CoversPath s v (own_values rule v) rule.body last (starting known rule.head.feats place list)
    → Path s v (own_values rule v) rule.body (record { place = place; list = list }) last
starts_from s rule v known place list last h =
    let r = path_from s v (own_values rule v) rule.body last (starting known rule.head.feats place list) h in
    let at = placed_from v place list r.0 (meeting known rule.head.feats ([] ∷ [])) r.1 in
    subst (λ a. Path s v (own_values rule v) rule.body a last) at.1 r.2

pub starts_to : (s : Setting) (rule : Rule) (v : Binds) (known : Binds) (place : ℕ) (list : List Entry) (last : At) → Agrees known rule v
    → Path s v (own_values rule v) rule.body (record { place = place; list = list }) last
    → CoversPath s v (own_values rule v) rule.body last (starting known rule.head.feats place list)
starts_to s rule v known place list last agrees path =
    path_to s v (own_values rule v) rule.body last (record { place = place; list = list }) (starting known rule.head.feats place list)
    (placed_to v place list (record { place = place; list = list }) (meeting known rule.head.feats ([] ∷ []))
    (meeting_to v known rule.head.feats ([] ∷ []) (inl tt) agrees) refl) path

-- before the first element
pub reached_first : (s : Setting) (rule : Rule) (starts : List State) → AreReached s rule starts 16 rule.body starts
reached_first s rule starts = record {
  numbered = omega arith;
  forth = λ v last instance h. h;
  back = λ v last instance h. h;
}

pub drop_further : (own : Binds) (k n m : ℕ) → 16 ≤ n → m ≡ n + k → drop k (drop (n - 16) own) ≡ drop (m - 16) own
drop_further own k n m le e = drop_drop_is (n - 16) own ∙ ap (λ j. drop j own) (let z : (n - 16) + k ≡ m - 16 = omega arith in z)
  where
    drop_drop_is : (j : ℕ) (own : Binds) → drop k (drop j own) ≡ drop (j + k) own
    drop_drop_is zero own = ap (λ i. drop i own) (let z : k ≡ 0 + k = omega arith in z)
    drop_drop_is (suc j) [] = drop-nil k ∙ sym (drop-nil (suc j + k))
    drop_drop_is (suc j) (p ∷ own) = drop_drop_is j own ∙ ap (λ i. drop i (p ∷ own)) (let z : suc (j + k) ≡ suc j + k = omega arith in z)

pub own_at : (s : Setting) (rule : Rule) (v : Binds) (n : ℕ) → is_instance s rule v ≡ true → 16 ≤ n → OwnFrom v (drop (n - 16) (own_values rule v)) n
own_at s rule v n instance le =
    let z : 16 + (n - 16) ≡ n = omega arith in
    subst (OwnFrom v (drop (n - 16) (own_values rule v))) z (own_from_drop v (own_values rule v) 16 (n - 16) ((parts_of s rule v instance).from))

-- after one more element
pub reached_next : (s : Setting) (rule : Rule) (starts : List State) (n m : ℕ) (e : Element) (es : List Element) (states news : List State)
    → AreReached s rule starts n (e ∷ es) states → AreSteps s rule n e states news → m ≡ n + length (own_features s.grammar e)
    → AreReached s rule starts m es news
reached_next s rule starts n m e es states news reached steps next = record {
  numbered = let le = reached.numbered in omega arith;
  forth = λ v last instance h.
      subst (λ own. CoversPath s v own es last news) (drop_further (own_values rule v) (length (own_features s.grammar e)) n m reached.numbered next)
      (path_step s v (drop (n - 16) (own_values rule v)) e es last states news
      (λ after l. steps.forth v (drop (n - 16) (own_values rule v)) after instance (own_at s rule v n instance reached.numbered) l)
      (reached.forth v last instance h));
  back = λ v last instance h.
      reached.back v last instance (path_unstep s v (drop (n - 16) (own_values rule v)) e es last states news
      (λ after c. steps.back v (drop (n - 16) (own_values rule v)) after instance (own_at s rule v n instance reached.numbered) c)
      (subst (λ own. CoversPath s v own es last news) (sym (drop_further (own_values rule v) (length (own_features s.grammar e)) n m reached.numbered next))
      h));
}

-- the ends of a rule are those of the phrases that stand after its last element
pub rule_ends : (s : Setting) (rule : Rule) (known : Binds) (place : ℕ) (list : List Entry) (states : List State) (before after : List End)
    → AreLast s rule (starting known rule.head.feats place list) states → HasFinished s rule list states before after
    → HasEndsOfRule s rule known (record { place = place; list = list }) before after
rule_ends s rule known place list states before after last finished_in = record {
  kept = finished_in.kept;
  new = λ v end instance agrees path.
      let led = last.1.forth v end instance (starts_to s rule v known place list end agrees path) in
      let one = covers_one s rule v (drop (last.0 - 16) (own_values rule v)) end states led in
      let state = one.0 in (
        end_with rule list state v,
        finished_in.new state (end_with rule list state v) one.1 (shows_finished s rule list state v instance one.2),
        record { head = refl; place = ap (λ a. a.place) one.3; tail = ap (λ a. left_of rule (drop (length list) a.list)) one.3 },
      );
  only = λ e o. either (λ h. inl h) (λ h.
      let state = h.0 in
      let r = finished_shows s rule list state e h.2 in
      let led = last.1.back r.values (at_of state) r.instance
      (one_covers s r.values (drop (last.0 - 16) (own_values rule r.values)) state states h.1 r.extends) in
      inr (record {
        values = r.values;
        instance = r.instance;
        last = at_of state;
        path = starts_from s rule r.values known place list (at_of state) led;
        ends = record { head = ap (λ x. x.values) (sym r.is); place = ap (λ x. x.place) (sym r.is); tail = ap (λ x. x.tail) (sym r.is) };
      })) (finished_in.only e o);
}

more_kept : (s : Setting) (rule : Rule) (known : Binds) (at : At) (before after : List End) → ((e : End) → OneOf before e → OneOf after e)
    → HasRuleEnds s rule known at before → HasRuleEnds s rule known at after
more_kept s rule known at before after kept has v last instance agrees path =
    let r = has v last instance agrees path in (r.0, kept r.0 r.1, r.2)

-- the rules, one after another

pub up_to_none : (s : Setting) (name : ℕ) (known : Binds) (at : At) → HasEndsUpTo s name known at 0 []
up_to_none s name known at = record {
  sound = λ e o. absurd o;
  complete = λ number rule has le named. none_at number rule has le;
}
  where
    none_at : (number : ℕ) (rule : Rule) → rule_with s.grammar number ≡ Some rule → number ≤ 0 → HasRuleEnds s rule known at []
    none_at zero rule has le = absurd (cc)
    none_at (suc n) rule has le = absurd (omega arith)

pub rule_at : (s : Setting) (number i : ℕ) (rule other : Rule) → rule_with s.grammar number ≡ Some other → slice_get s.grammar.rules i ≡ Some rule
    → number ≡ i + 1 → other ≡ rule
rule_at s zero i rule other has is e = absurd (cc)
rule_at s (suc n) i rule other has is e = at (suc n == 0) refl has
  where
    at : (b : Bool) → (suc n == 0) ≡ b → (if b then None else slice_get s.grammar.rules (suc n - 1)) ≡ Some other → other ≡ rule
    at true t h = absurd (cc)
    at false t h =
        let z : suc n - 1 ≡ i = omega arith in
        same_Some other rule (sym h ∙ ap (slice_get s.grammar.rules) z ∙ is)

pub number_of : (s : Setting) (i : ℕ) (rule : Rule) → slice_get s.grammar.rules i ≡ Some rule → rule_with s.grammar (i + 1) ≡ Some rule
number_of s i rule is =
    let z : (i + 1) - 1 ≡ i = omega arith in
    let n : (i + 1 == 0) ≡ false = grind (arith, nat_tests) in
    ap (λ b. if b then None else slice_get s.grammar.rules ((i + 1) - 1)) n ∙ ap (slice_get s.grammar.rules) z ∙ is

-- a rule with another name
pub up_to_skip : (s : Setting) (name : ℕ) (known : Binds) (at : At) (i : ℕ) (rule : Rule) (ends : List End) → slice_get s.grammar.rules i ≡ Some rule
    → (rule.head.name ≡ name → ⊥) → HasEndsUpTo s name known at i ends → HasEndsUpTo s name known at (i + 1) ends
up_to_skip s name known at i rule ends is other h = record {
  sound = h.sound;
  complete = λ number r has le named. by_last number r has le named (nat_lt i number) refl;
}
  where
    by_last : (number : ℕ) (r : Rule) → rule_with s.grammar number ≡ Some r → number ≤ i + 1 → r.head.name ≡ name → (b : Bool) → nat_lt i number ≡ b
        → HasRuleEnds s r known at ends
    by_last number r has le named true t =
        let lt : i < number = grind (arith, nat_tests) in
        let e : number ≡ i + 1 = omega arith in
        absurd (other (ap (λ x. x.head.name) (sym (rule_at s number i rule r has is e)) ∙ named))
    by_last number r has le named false t =
        let ge : number ≤ i = grind (arith, nat_tests) in
        h.complete number r has ge named

-- a rule with the name
pub up_to_more : (s : Setting) (name : ℕ) (known : Binds) (at : At) (i : ℕ) (rule : Rule) (ends more : List End) → slice_get s.grammar.rules i ≡ Some rule
    → rule.head.name ≡ name → HasEndsUpTo s name known at i ends → HasEndsOfRule s rule known at ends more → HasEndsUpTo s name known at (i + 1) more
up_to_more s name known at i rule ends more is named h has_ends = record {
  sound = λ e o. either (λ x. h.sound e x) (λ x. record { number = i + 1; rule = rule; has = number_of s i rule is; named = named; ends = x })
      (has_ends.only e o);
  complete = λ number r has le n. by_last number r has le n (nat_lt i number) refl;
}
  where
    by_last : (number : ℕ) (r : Rule) → rule_with s.grammar number ≡ Some r → number ≤ i + 1 → r.head.name ≡ name → (b : Bool) → nat_lt i number ≡ b
        → HasRuleEnds s r known at more
    by_last number r has le n true t =
        let lt : i < number = grind (arith, nat_tests) in
        let e : number ≡ i + 1 = omega arith in
        subst (λ x. HasRuleEnds s x known at more) (sym (rule_at s number i rule r has is e)) has_ends.new
    by_last number r has le n false t =
        let ge : number ≤ i = grind (arith, nat_tests) in
        more_kept s r known at ends more has_ends.kept (h.complete number r has ge n)

pub ends_up_to : (s : Setting) (name : ℕ) (known : Binds) (at : At) (ends : List End) → HasEndsUpTo s name known at (length s.grammar.rules) ends
    → IsEnds s name known at ends
ends_up_to s name known at ends h = ends_of_rules s name known at ends h.sound h.complete

-- one more state of an element

pub steps_none : (s : Setting) (rule : Rule) (n : ℕ) (e : Element) → AreSteps s rule n e [] []
steps_none s rule n e = record {
  forth = λ v own after instance from h. absurd h;
  back = λ v own after instance from h. absurd h;
}

leads_left : (s : Setting) (v own : Binds) (e : Element) (after : At) (xs : List State) (x : State) → LeadsFrom s v own e after (xs ++ x ∷ [])
    → LeadsFrom s v own e after xs ⊎ (Extends v x.binds × ElementLeads s v own e (at_of x) after)
leads_left s v own e after [] x (inl h) = inr h
leads_left s v own e after [] x (inr h) = absurd h
leads_left s v own e after (y ∷ ys) x (inl h) = inl (inl h)
leads_left s v own e after (y ∷ ys) x (inr h) = either (λ a. inl (inr a)) (λ b. inr b) (leads_left s v own e after ys x h)

leads_front : (s : Setting) (v own : Binds) (e : Element) (after : At) (xs : List State) (x : State) → LeadsFrom s v own e after xs
    → LeadsFrom s v own e after (xs ++ x ∷ [])
leads_front s v own e after [] x h = absurd h
leads_front s v own e after (y ∷ ys) x (inl h) = inl h
leads_front s v own e after (y ∷ ys) x (inr h) = inr (leads_front s v own e after ys x h)

leads_last : (s : Setting) (v own : Binds) (e : Element) (after : At) (xs : List State) (x : State) → Extends v x.binds × ElementLeads s v own e (at_of x) after
    → LeadsFrom s v own e after (xs ++ x ∷ [])
leads_last s v own e after [] x h = inl h
leads_last s v own e after (y ∷ ys) x h = inr (leads_last s v own e after ys x h)

pub steps_more : (s : Setting) (rule : Rule) (n : ℕ) (e : Element) (states : List State) (state : State) (before news : List State)
    → AreSteps s rule n e states before → IsStep s rule n e state news → AreSteps s rule n e (states ++ state ∷ []) (before ++ news)
steps_more s rule n e states state before news a b = record {
  forth = λ v own after instance from h. either (λ x. covers_left v after before news (a.forth v own after instance from x))
      (λ x. covers_right v after before news (b.forth v own after instance from x.0 x.1)) (leads_left s v own e after states state h);
  back = λ v own after instance from h. either (λ x. leads_front s v own e after states state (a.back v own after instance from x))
      (λ x. leads_last s v own e after states state (b.back v own after instance from x)) (covers_append v after before news h);
}

pub plain_step : (s : Setting) (rule : Rule) (n : ℕ) (e : Element) (state : State) → is_sub e ≡ false
    → IsStep s rule n e state (plain_steps s (choices_in s rule) n e state)
plain_step s rule n e state plain = record {
  forth = λ v own after instance from h l. plain_to s (choices_in s rule) n v own e state after plain (chosen s rule v instance) from h l;
  back = λ v own after instance from h. plain_from s (choices_in s rule) n v own e state after from h;
}

pub category_step : (s : Setting) (rule : Rule) (n : ℕ) (c : Category) (state : State) (ends : List End)
    → IsEnds s c.name (known_features state.binds c.feats) (stripped state) ends → IsStep s rule n (Sub c) state (sub_steps c state ends)
category_step s rule n c state ends is = record {
  forth = λ v own after instance from h l. sub_to s v c state ends after is h l;
  back = λ v own after instance from h. sub_back s v c state ends after is h;
}

-- the ends of finished phrases

pub finished_none : (s : Setting) (rule : Rule) (start : List Entry) (ends : List End) → HasFinished s rule start [] ends ends
finished_none s rule start ends = record {
  kept = λ e o. o;
  new = λ state e o f. absurd o;
  only = λ e o. inl o;
}

one_before : {X : Type 0} (xs : List X) (x y : X) → OneOf xs y → OneOf (xs ++ x ∷ []) y
one_before [] x y h = absurd h
one_before (z ∷ zs) x y (inl e) = inl e
one_before (z ∷ zs) x y (inr h) = inr (one_before zs x y h)

pub finished_more : (s : Setting) (rule : Rule) (start : List Entry) (states : List State) (state : State) (first before after : List End)
    → HasFinished s rule start states first before → HasMore before after (finished s rule start state)
    → HasFinished s rule start (states ++ state ∷ []) first after
finished_more s rule start states state first before after a b = record {
  kept = λ e o. b.kept e (a.kept e o);
  new = λ x e o f. either (λ h. b.kept e (a.new x e h f)) (λ h. b.new e (subst (λ y. OneOf (finished s rule start y) e) (sym h) f))
      (one_front states state x o);
  only = λ e o. either (λ h. either (λ k. inl k) (λ k. inr (k.0, one_before states state k.0 k.1, k.2)) (a.only e h))
      (λ h. inr (state, one_last states state, h)) (b.only e o);
}

pub more_none : (ends : List End) → HasMore ends ends []
more_none ends = record { kept = λ e o. o; new = λ e o. absurd o; only = λ e o. inl o }

pub more_one : (ends : List End) (x : End) → HasMore ends (ends ++ x ∷ []) (x ∷ [])
more_one ends x = record {
  kept = λ e o. one_before ends x e o;
  new = λ e o. either (λ h. subst (OneOf (ends ++ x ∷ [])) h (one_last ends x)) (λ h. absurd h) o;
  only = λ e o. either (λ h. inl h) (λ h. inr (inl h)) (one_front ends x e o);
}

-- an end that was added
pub more_push : (before after : List End) (x : End) → after ≡ before ++ x ∷ [] → HasMore before after (x ∷ [])
more_push before after x e = subst (λ l. HasMore before l (x ∷ [])) (sym e) (more_one before x)

pub more_same : (ends : List End) (x y : End) → OneOf ends y → y ≡ x → HasMore ends ends (x ∷ [])
more_same ends x y o is = record {
  kept = λ e h. h;
  new = λ e h. either (λ k. subst (OneOf ends) (is ∙ k) o) (λ k. absurd k) h;
  only = λ e h. inl h;
}

pub more_then : (before middle after xs : List End) (x : End) → HasMore before middle xs → HasMore middle after (x ∷ []) → HasMore before after (xs ++ x ∷ [])
more_then before middle after xs x a b = record {
  kept = λ e o. b.kept e (a.kept e o);
  new = λ e o. either (λ h. b.kept e (a.new e h)) (λ h. b.new e (inl h)) (one_front xs x e o);
  only = λ e o. either (λ h. either (λ k. inl k) (λ k. inr (one_before xs x e k)) (a.only e h))
      (λ h. either (λ k. inr (subst (OneOf (xs ++ x ∷ [])) k (one_last xs x))) (λ k. absurd k) h) (b.only e o);
}

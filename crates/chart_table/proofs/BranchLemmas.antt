-- Which instances extend one of some assignments.
use Rattle.std.proofs.Common.{◌≡◌, ℕ, List, [], ◌∷◌, ◌++◌, Bool, true, false, ◌&&◌, ◌||◌, Option, Some, None, refl, sym, ap, ◌∙◌, subst, ◌⊎◌, inl, inr}
use Rattle.std.specs.Prelude.{if◌then◌else◌, ◌==◌, not, unwrap_or}
use Rattle.std.specs.List.{list_all, filter_map, cons_option, flat_map}
use Rattle.std.proofs.lemmas.Option.{same_Some}
use Rattle.std.proofs.lemmas.Grind.{flat_map-append}
use Rattle.std.proofs.lemmas.List.{append-nil}
use Rattle.std.proofs.lemmas.Bool.{eqb-true, and_from}
use Rattle.std.proofs.Math.Bool.{or-true}
use Rattle.wiki_base.proofs.NumberLaws.{eqb_refl}
use Rattle.derivation_trees.proofs.ValueLemmas.{same_value_is}
use Rattle.codeco_terms.specs.declared.values.Value.{Value}
use Rattle.codeco_terms.specs.declared.values.Value.TheVariants.{Atom}
use Rattle.codeco_terms.specs.declared.values.Term.{Term}
use Rattle.codeco_terms.specs.declared.values.Term.TheVariants.{Val, Var}
use Rattle.codeco_terms.specs.declared.categories.Category.{Category}
use Rattle.codeco_terms.specs.declared.categories.Pattern.{Pattern}
use Rattle.codeco_terms.specs.declared.categories.Ground.{Ground}
use Rattle.codeco_terms.specs.Values.{same_value}
use Rattle.scopes.specs.Resolution.{has_value, agrees}
use Rattle.derivation_trees.specs.Instances.{looked_up, value_under, term_value, under, feats_under, tests_under}
use Rattle.derivation_trees.specs.Derives.{same_where_both}
use Rattle.chart_table.specs.Branches.{OneOf, Extends, AnyExtends, bound_at, bound_term, restricted, values_at, having, read_as, meeting_one, meeting, chosen_at, chosen_for, closing, closing_patterns, known_value}
use Rattle.chart_table.proofs.PassLemmas.{if_some, both_true, same_value-refl}

abbrev pub Binds : Type 0
Binds = List (ℕ × Value)

-- one way or the other
pub either : {A B C : Type 0} → (A → C) → (B → C) → A ⊎ B → C
either f g (inl a) = f a
either f g (inr b) = g b

pub extends_push : (v b : Binds) (x : ℕ) (value : Value) → Extends v b → value_under v x ≡ value → Extends v (b ++ (x, value) ∷ [])
extends_push v [] x value h e = (e, tt)
extends_push v (p ∷ b) x value h e = (h.0, extends_push v b x value h.1 e)

pub extends_front : (v b : Binds) (x : ℕ) (value : Value) → Extends v (b ++ (x, value) ∷ []) → Extends v b
extends_front v [] x value h = tt
extends_front v (p ∷ b) x value h = (h.0, extends_front v b x value h.1)

pub extends_last : (v b : Binds) (x : ℕ) (value : Value) → Extends v (b ++ (x, value) ∷ []) → value_under v x ≡ value
extends_last v [] x value h = h.0
extends_last v (p ∷ b) x value h = extends_last v b x value h.1

-- a variable has the value that is known of it
lookup_at : (v : Binds) (p : ℕ × Value) (x : ℕ) (value : Value) (o : Option Value) (b : Bool) → (p.0 == x) ≡ b → value_under v p.0 ≡ p.1
    → (o ≡ Some value → value_under v x ≡ value) → (if b then Some p.1 else o) ≡ Some value → value_under v x ≡ value
lookup_at v p x value o true e first rest h = ap (value_under v) (sym (eqb-true p.0 x e)) ∙ first ∙ same_Some _ _ h
lookup_at v p x value o false e first rest h = rest h

pub extends_lookup : (v b : Binds) (x : ℕ) (value : Value) → Extends v b → looked_up b x ≡ Some value → value_under v x ≡ value
extends_lookup v [] x value h e = absurd (cc)
extends_lookup v (p ∷ b) x value h e = lookup_at v p x value (looked_up b x) (p.0 == x) refl h.0 (extends_lookup v b x value h.1) e

-- what holds of a choice that may be there
abbrev pub Admits : Binds → Option Binds → Type 0
Admits v None = ⊥
Admits v (Some b) = Extends v b

same_admits : (v b : Binds) (known value : Value) → known ≡ value → Extends v b → Admits v (if same_value known value then Some b else None)
same_admits v b known value e h =
    subst (λ t. Admits v (if t then Some b else None)) (sym (ap (same_value known) (sym e) ∙ same_value-refl known)) h

admits_same : (v b : Binds) (known value : Value) → Admits v (if same_value known value then Some b else None) → Extends v b × (known ≡ value)
admits_same v b known value h = at (same_value known value) refl h
  where
    at : (t : Bool) → same_value known value ≡ t → Admits v (if t then Some b else None) → Extends v b × (known ≡ value)
    at true e h = (h, same_value_is known value e)
    at false e h = absurd h

bound_at_to : (v b : Binds) (x : ℕ) (value : Value) (o : Option Value) → looked_up b x ≡ o → Extends v b → value_under v x ≡ value
    → Admits v (bound_at b x value o)
bound_at_to v b x value None e h is = extends_push v b x value h is
bound_at_to v b x value (Some known) e h is = same_admits v b known value (sym (extends_lookup v b x known h e) ∙ is) h

bound_at_from : (v b : Binds) (x : ℕ) (value : Value) (o : Option Value) → looked_up b x ≡ o → Admits v (bound_at b x value o)
    → Extends v b × (value_under v x ≡ value)
bound_at_from v b x value None e h = (extends_front v b x value h, extends_last v b x value h)
bound_at_from v b x value (Some known) e h =
    let r = admits_same v b known value h in
    (r.0, extends_lookup v b x known r.0 e ∙ r.1)

pub bound_to : (v b : Binds) (term : Term) (value : Value) → Extends v b → term_value v term ≡ value → Admits v (bound_term b term value)
bound_to v b (Val known) value h is = same_admits v b known value is h
bound_to v b (Var x) value h is = bound_at_to v b x value (looked_up b x) refl h is

pub bound_from : (v b : Binds) (term : Term) (value : Value) → Admits v (bound_term b term value) → Extends v b × (term_value v term ≡ value)
bound_from v b (Val known) value h = admits_same v b known value h
bound_from v b (Var x) value h = bound_at_from v b x value (looked_up b x) refl h

-- lists of assignments

pub any_left : (v : Binds) (xs ys : List Binds) → AnyExtends v xs → AnyExtends v (xs ++ ys)
any_left v [] ys h = absurd h
any_left v (x ∷ xs) ys (inl h) = inl h
any_left v (x ∷ xs) ys (inr h) = inr (any_left v xs ys h)

pub any_right : (v : Binds) (xs ys : List Binds) → AnyExtends v ys → AnyExtends v (xs ++ ys)
any_right v [] ys h = h
any_right v (x ∷ xs) ys h = inr (any_right v xs ys h)

pub any_append : (v : Binds) (xs ys : List Binds) → AnyExtends v (xs ++ ys) → AnyExtends v xs ⊎ AnyExtends v ys
any_append v [] ys h = inr h
any_append v (x ∷ xs) ys (inl h) = inl (inl h)
any_append v (x ∷ xs) ys (inr h) = either (λ a. inl (inr a)) (λ b. inr b) (any_append v xs ys h)

any_option : (v : Binds) (o : Option Binds) (rest : List Binds) → Admits v o ⊎ AnyExtends v rest → AnyExtends v (cons_option o rest)
any_option v None rest (inl h) = absurd h
any_option v None rest (inr h) = h
any_option v (Some b) rest h = h

option_any : (v : Binds) (o : Option Binds) (rest : List Binds) → AnyExtends v (cons_option o rest) → Admits v o ⊎ AnyExtends v rest
option_any v None rest h = inr h
option_any v (Some b) rest h = h

-- one assignment, restricted

one_to : (v b : Binds) (term : Term) (values : List Value) → Extends v b → OneOf values (term_value v term)
    → AnyExtends v (filter_map (bound_term b term) values)
one_to v b term [] h o = absurd o
one_to v b term (x ∷ xs) h (inl e) = any_option v (bound_term b term x) (filter_map (bound_term b term) xs) (inl (bound_to v b term x h (sym e)))
one_to v b term (x ∷ xs) h (inr o) = any_option v (bound_term b term x) (filter_map (bound_term b term) xs) (inr (one_to v b term xs h o))

one_from : (v b : Binds) (term : Term) (values : List Value) → AnyExtends v (filter_map (bound_term b term) values)
    → Extends v b × OneOf values (term_value v term)
one_from v b term [] h = absurd h
one_from v b term (x ∷ xs) h =
    either (λ a. let r = bound_from v b term x a in (r.0, inl (sym r.1))) (λ a. let r = one_from v b term xs a in (r.0, inr r.1))
    (option_any v (bound_term b term x) (filter_map (bound_term b term) xs) h)

pub restricted_to : (v : Binds) (term : Term) (values : List Value) (bs : List Binds) → AnyExtends v bs → OneOf values (term_value v term)
    → AnyExtends v (restricted term values bs)
restricted_to v term values [] h o = absurd h
restricted_to v term values (b ∷ bs) (inl h) o = any_left v (filter_map (bound_term b term) values) (restricted term values bs) (one_to v b term values h o)
restricted_to v term values (b ∷ bs) (inr h) o =
    any_right v (filter_map (bound_term b term) values) (restricted term values bs) (restricted_to v term values bs h o)

pub restricted_from : (v : Binds) (term : Term) (values : List Value) (bs : List Binds) → AnyExtends v (restricted term values bs)
    → AnyExtends v bs × OneOf values (term_value v term)
restricted_from v term values [] h = absurd h
restricted_from v term values (b ∷ bs) h =
    either (λ a. let r = one_from v b term values a in (inl r.0, r.1)) (λ a. let r = restricted_from v term values bs a in (inr r.0, r.1))
    (any_append v (filter_map (bound_term b term) values) (restricted term values bs) h)

-- the values given for a feature

pub values_at_to : (vals : Binds) (feature : ℕ) (value : Value) → has_value vals (feature, value) ≡ true → OneOf (values_at vals feature) value
values_at_to [] feature value h = absurd (cc)
values_at_to (p ∷ vals) feature value h = at (values_at_to vals feature value) (p.0 == feature) (same_value p.1 value) refl refl h
  where
    at : (has_value vals (feature, value) ≡ true → OneOf (values_at vals feature) value) → (a b : Bool) → (p.0 == feature) ≡ a → same_value p.1 value ≡ b
        → ((a && b) || has_value vals (feature, value)) ≡ true → OneOf (cons_option (if a then Some p.1 else None) (values_at vals feature)) value
    at rest true true e f h = inl (same_value_is p.1 value f)
    at rest true false e f h = inr (rest h)
    at rest false b e f h = rest h

values_at_from : (vals : Binds) (feature : ℕ) (value : Value) → OneOf (values_at vals feature) value → has_value vals (feature, value) ≡ true
values_at_from [] feature value h = absurd h
values_at_from (p ∷ vals) feature value h = at (values_at_from vals feature value) (p.0 == feature) h
  where
    found : p.1 ≡ value → (same_value p.1 value || has_value vals (feature, value)) ≡ true
    found e = ap (λ b. b || has_value vals (feature, value)) (ap (same_value p.1) (sym e) ∙ same_value-refl p.1)

    at : (OneOf (values_at vals feature) value → has_value vals (feature, value) ≡ true) → (a : Bool)
        → OneOf (cons_option (if a then Some p.1 else None) (values_at vals feature)) value
        → ((a && same_value p.1 value) || has_value vals (feature, value)) ≡ true
    at rest true (inl is) = found is
    at rest true (inr later) = ap (λ b. same_value p.1 value || b) (rest later) ∙ or-true (same_value p.1 value)
    at rest false later = rest later

pub having_to : (v vals : Binds) (feats : List (ℕ × Term)) (bs : List Binds) → AnyExtends v bs → list_all (has_value vals) (feats_under v feats) ≡ true
    → AnyExtends v (having vals feats bs)
having_to v vals [] bs h t = h
having_to v vals (q ∷ feats) bs h t =
    both_true (has_value vals (q.0, term_value v q.1)) (list_all (has_value vals) (feats_under v feats)) t (λ a b.
    having_to v vals feats (restricted q.1 (values_at vals q.0) bs) (restricted_to v q.1 (values_at vals q.0) bs h (values_at_to vals q.0 (term_value v q.1) a))
    b)

pub having_from : (v vals : Binds) (feats : List (ℕ × Term)) (bs : List Binds) → AnyExtends v (having vals feats bs)
    → AnyExtends v bs × (list_all (has_value vals) (feats_under v feats) ≡ true)
having_from v vals [] bs h = (h, refl)
having_from v vals (q ∷ feats) bs h =
    let r = having_from v vals feats (restricted q.1 (values_at vals q.0) bs) h in
    let one = restricted_from v q.1 (values_at vals q.0) bs r.0 in (
      one.0,
      and_from (has_value vals (q.0, term_value v q.1)) (list_all (has_value vals) (feats_under v feats))
          (values_at_from vals q.0 (term_value v q.1) one.1) r.1,
    )

pub single : (v b : Binds) → AnyExtends v (b ∷ []) → Extends v b
single v b (inl h) = h
single v b (inr h) = absurd h

pub read_to : (v b : Binds) (c : Category) (reading : Ground) → Extends v b → agrees reading (under v c) ≡ true → AnyExtends v (read_as c b reading)
read_to v b c reading h t = at (reading.name == c.name) t
  where
    at : (a : Bool) → (a && list_all (has_value reading.vals) (feats_under v c.feats)) ≡ true
        → AnyExtends v (if a then having reading.vals c.feats (b ∷ []) else [])
    at true t = having_to v reading.vals c.feats (b ∷ []) (inl h) t
    at false t = absurd (cc)

pub read_from : (v b : Binds) (c : Category) (reading : Ground) → AnyExtends v (read_as c b reading) → Extends v b × (agrees reading (under v c) ≡ true)
read_from v b c reading h = at (reading.name == c.name) h
  where
    at : (a : Bool) → AnyExtends v (if a then having reading.vals c.feats (b ∷ []) else [])
        → Extends v b × ((a && list_all (has_value reading.vals) (feats_under v c.feats)) ≡ true)
    at true h = let r = having_from v reading.vals c.feats (b ∷ []) h in (single v b r.0, r.1)
    at false h = absurd h

-- features that both have

both_to : (v : Binds) (p : ℕ × Value) (feats : List (ℕ × Term)) (bs : List Binds) → AnyExtends v bs → list_all (same_where_both p) (feats_under v feats) ≡ true
    → AnyExtends v (meeting_one p feats bs)
both_to v p [] bs h t = h
both_to v p (q ∷ feats) bs h t =
    both_true (same_where_both p (q.0, term_value v q.1)) (list_all (same_where_both p) (feats_under v feats)) t
    (λ a b. both_to v p feats _ (at (p.0 == q.0) a) b)
  where
    at : (a : Bool) → (not a || same_value p.1 (term_value v q.1)) ≡ true → AnyExtends v (if a then restricted q.1 (p.1 ∷ []) bs else bs)
    at true e = restricted_to v q.1 (p.1 ∷ []) bs h (inl (same_value_is p.1 (term_value v q.1) e))
    at false e = h

both_from : (v : Binds) (p : ℕ × Value) (feats : List (ℕ × Term)) (bs : List Binds) → AnyExtends v (meeting_one p feats bs)
    → AnyExtends v bs × (list_all (same_where_both p) (feats_under v feats) ≡ true)
both_from v p [] bs h = (h, refl)
both_from v p (q ∷ feats) bs h =
    let r = both_from v p feats (if p.0 == q.0 then restricted q.1 (p.1 ∷ []) bs else bs) h in
    let one = at (p.0 == q.0) r.0 in
    (one.0, and_from (same_where_both p (q.0, term_value v q.1)) (list_all (same_where_both p) (feats_under v feats)) one.1 r.1)
  where
    value_same : (x : Value) → OneOf (p.1 ∷ []) x → same_value p.1 x ≡ true
    value_same x (inl e) = ap (same_value p.1) (sym e) ∙ same_value-refl p.1
    value_same x (inr e) = absurd e

    at : (a : Bool) → AnyExtends v (if a then restricted q.1 (p.1 ∷ []) bs else bs) → AnyExtends v bs × ((not a || same_value p.1 (term_value v q.1)) ≡ true)
    at true h = let r = restricted_from v q.1 (p.1 ∷ []) bs h in (r.0, value_same (term_value v q.1) r.1)
    at false h = (h, refl)

pub meeting_to : (v vals : Binds) (feats : List (ℕ × Term)) (bs : List Binds) → AnyExtends v bs
    → list_all (λ p. list_all (same_where_both p) (feats_under v feats)) vals ≡ true → AnyExtends v (meeting vals feats bs)
meeting_to v [] feats bs h t = h
meeting_to v (p ∷ vals) feats bs h t =
    both_true (list_all (same_where_both p) (feats_under v feats)) (list_all (λ r. list_all (same_where_both r) (feats_under v feats)) vals) t
    (λ a b. meeting_to v vals feats (meeting_one p feats bs) (both_to v p feats bs h a) b)

pub meeting_from : (v vals : Binds) (feats : List (ℕ × Term)) (bs : List Binds) → AnyExtends v (meeting vals feats bs)
    → AnyExtends v bs × (list_all (λ p. list_all (same_where_both p) (feats_under v feats)) vals ≡ true)
meeting_from v [] feats bs h = (h, refl)
meeting_from v (p ∷ vals) feats bs h =
    let r = meeting_from v vals feats (meeting_one p feats bs) h in
    let one = both_from v p feats bs r.0 in
    (one.0, and_from (list_all (same_where_both p) (feats_under v feats)) (list_all (λ r. list_all (same_where_both r) (feats_under v feats)) vals) one.1 r.1)

-- terms that are given each of their choices

-- each term has one of its choices in the instance
abbrev pub Chosen : (Term → List Value) → Binds → Type 0
Chosen choices v = (term : Term) → OneOf (choices term) (term_value v term)

chosen_to : (v b : Binds) (term : Term) (values : List Value) → Extends v b → OneOf values (term_value v term) → AnyExtends v (chosen_for term values b)
chosen_to v b term values h o = at (known_value b term)
  where
    at : (k : Option Value) → AnyExtends v (chosen_at term values b k)
    at None = one_to v b term values h o
    at (Some known) = inl h

chosen_from : (v b : Binds) (term : Term) (values : List Value) → AnyExtends v (chosen_for term values b) → Extends v b
chosen_from v b term values h = at (known_value b term) h
  where
    at : (k : Option Value) → AnyExtends v (chosen_at term values b k) → Extends v b
    at None h = (one_from v b term values h).0
    at (Some known) h = single v b h

chosen_all_to : (v : Binds) (term : Term) (values : List Value) (bs : List Binds) → AnyExtends v bs → OneOf values (term_value v term)
    → AnyExtends v (flat_map (chosen_for term values) bs)
chosen_all_to v term values [] h o = absurd h
chosen_all_to v term values (b ∷ bs) (inl h) o = any_left v (chosen_for term values b) (flat_map (chosen_for term values) bs) (chosen_to v b term values h o)
chosen_all_to v term values (b ∷ bs) (inr h) o =
    any_right v (chosen_for term values b) (flat_map (chosen_for term values) bs) (chosen_all_to v term values bs h o)

chosen_all_from : (v : Binds) (term : Term) (values : List Value) (bs : List Binds) → AnyExtends v (flat_map (chosen_for term values) bs) → AnyExtends v bs
chosen_all_from v term values [] h = h
chosen_all_from v term values (b ∷ bs) h =
    either (λ a. inl (chosen_from v b term values a)) (λ a. inr (chosen_all_from v term values bs a))
    (any_append v (chosen_for term values b) (flat_map (chosen_for term values) bs) h)

pub closing_to : (choices : Term → List Value) (v : Binds) (feats : List (ℕ × Term)) (bs : List Binds) → Chosen choices v → AnyExtends v bs
    → AnyExtends v (closing choices feats bs)
closing_to choices v [] bs chosen h = h
closing_to choices v (q ∷ feats) bs chosen h = closing_to choices v feats _ chosen (chosen_all_to v q.1 (choices q.1) bs h (chosen q.1))

pub closing_from : (choices : Term → List Value) (v : Binds) (feats : List (ℕ × Term)) (bs : List Binds) → AnyExtends v (closing choices feats bs)
    → AnyExtends v bs
closing_from choices v [] bs h = h
closing_from choices v (q ∷ feats) bs h = chosen_all_from v q.1 (choices q.1) bs (closing_from choices v feats _ h)

pub closing_patterns_to : (choices : Term → List Value) (v : Binds) (ps : List Pattern) (bs : List Binds) → Chosen choices v → AnyExtends v bs
    → AnyExtends v (closing_patterns choices ps bs)
closing_patterns_to choices v [] bs chosen h = h
closing_patterns_to choices v (p ∷ ps) bs chosen h = closing_patterns_to choices v ps _ chosen (closing_to choices v p.cat.feats bs chosen h)

pub closing_patterns_from : (choices : Term → List Value) (v : Binds) (ps : List Pattern) (bs : List Binds) → AnyExtends v (closing_patterns choices ps bs)
    → AnyExtends v bs
closing_patterns_from choices v [] bs h = h
closing_patterns_from choices v (p ∷ ps) bs h = closing_from choices v p.cat.feats bs (closing_patterns_from choices v ps _ h)

-- what is known of terms

-- the term has a value in the assignment
abbrev pub Known : Binds → Term → Type 0
Known b term = (value : Value) × (known_value b term ≡ Some value)

abbrev pub KnownAll : List (ℕ × Term) → Binds → Type 0
KnownAll [] b = Unit {0}
KnownAll (q ∷ feats) b = Known b q.1 × KnownAll feats b

abbrev pub KnownPatterns : List Pattern → Binds → Type 0
KnownPatterns [] b = Unit {0}
KnownPatterns (p ∷ ps) b = KnownAll p.cat.feats b × KnownPatterns ps b

-- it holds of each assignment
abbrev pub Each : (Binds → Type 0) → List Binds → Type 0
Each P [] = Unit {0}
Each P (b ∷ bs) = P b × Each P bs

pub each_append : (P : Binds → Type 0) (xs ys : List Binds) → Each P xs → Each P ys → Each P (xs ++ ys)
each_append P [] ys h k = k
each_append P (x ∷ xs) ys h k = (h.0, each_append P xs ys h.1 k)

pub each_both : (P Q : Binds → Type 0) (xs : List Binds) → Each P xs → Each Q xs → Each (λ b. P b × Q b) xs
each_both P Q [] h k = tt
each_both P Q (x ∷ xs) h k = ((h.0, k.0), each_both P Q xs h.1 k.1)

lookup_push_at : (p : ℕ × Value) (x : ℕ) (value : Value) (o r : Option Value) (b : Bool) → (o ≡ Some value → r ≡ Some value)
    → (if b then Some p.1 else o) ≡ Some value → (if b then Some p.1 else r) ≡ Some value
lookup_push_at p x value o r true rest h = h
lookup_push_at p x value o r false rest h = rest h

lookup_push : (b : Binds) (q : ℕ × Value) (x : ℕ) (value : Value) → looked_up b x ≡ Some value → looked_up (b ++ q ∷ []) x ≡ Some value
lookup_push [] q x value h = absurd (cc)
lookup_push (p ∷ b) q x value h = lookup_push_at p x value (looked_up b x) (looked_up (b ++ q ∷ []) x) (p.0 == x) (lookup_push b q x value) h

lookup_new : (b : Binds) (x : ℕ) (value : Value) → looked_up b x ≡ None → looked_up (b ++ (x, value) ∷ []) x ≡ Some value
lookup_new [] x value h = ap (λ t. if t then Some value else None) (eqb_refl x)
lookup_new (p ∷ b) x value h = at (lookup_new b x value) (p.0 == x) h
  where
    at : (looked_up b x ≡ None → looked_up (b ++ (x, value) ∷ []) x ≡ Some value) → (t : Bool) → (if t then Some p.1 else looked_up b x) ≡ None
        → (if t then Some p.1 else looked_up (b ++ (x, value) ∷ []) x) ≡ Some value
    at rest true h = absurd (cc)
    at rest false h = rest h

push_known : (b : Binds) (q : ℕ × Value) (term : Term) → Known b term → Known (b ++ q ∷ []) term
push_known b q (Val v) h = h
push_known b q (Var x) h = (h.0, lookup_push b q x h.0 h.1)

if_choice : {X P : Type 0} (t : Bool) (x y : X) → (if t then Some x else None) ≡ Some y → (x ≡ y → P) → P
if_choice t x y h k = if_some t x y h (λ _ e. k e)

-- what is known stays known
pub bound_keeps : (b : Binds) (term : Term) (value : Value) (after : Binds) (other : Term) → Known b other → bound_term b term value ≡ Some after
    → Known after other
bound_keeps b (Val known) value after other h e = if_choice (same_value known value) b after e (λ is. subst (λ c. Known c other) is h)
bound_keeps b (Var x) value after other h e = at (looked_up b x) e
  where
    at : (o : Option Value) → bound_at b x value o ≡ Some after → Known after other
    at None e = subst (λ c. Known c other) (same_Some _ _ e) (push_known b (x, value) other h)
    at (Some known) e = if_choice (same_value known value) b after e (λ is. subst (λ c. Known c other) is h)

-- a term that is given a value is known
pub bound_known : (b : Binds) (term : Term) (value : Value) (after : Binds) → bound_term b term value ≡ Some after → Known after term
bound_known b (Val known) value after e = (known, refl)
bound_known b (Var x) value after e = at (looked_up b x) refl e
  where
    at : (o : Option Value) → looked_up b x ≡ o → bound_at b x value o ≡ Some after → Known after (Var x)
    at None is e = subst (λ c. Known c (Var x)) (same_Some _ _ e) (value, lookup_new b x value is)
    at (Some known) is e = if_choice (same_value known value) b after e (λ same. subst (λ c. Known c (Var x)) same (known, is))

-- a fact that stays when more is known
abbrev pub Stays : (Binds → Type 0) → Type 0
Stays P = (b : Binds) (term : Term) (value : Value) (after : Binds) → P b → bound_term b term value ≡ Some after → P after

each_option : (P : Binds → Type 0) (o : Option Binds) (rest : List Binds) → ((b : Binds) → o ≡ Some b → P b) → Each P rest → Each P (cons_option o rest)
each_option P None rest h k = k
each_option P (Some b) rest h k = (h b refl, k)

one_each : (P : Binds → Type 0) (b : Binds) (term : Term) (values : List Value)
    → ((value : Value) (after : Binds) → bound_term b term value ≡ Some after → P after) → Each P (filter_map (bound_term b term) values)
one_each P b term [] h = tt
one_each P b term (x ∷ xs) h = each_option P (bound_term b term x) (filter_map (bound_term b term) xs) (h x) (one_each P b term xs h)

chosen_keeps : (P : Binds → Type 0) → Stays P → (term : Term) (values : List Value) (b : Binds) → P b → Each P (chosen_for term values b)
chosen_keeps P stays term values b h = at (known_value b term)
  where
    at : (k : Option Value) → Each P (chosen_at term values b k)
    at None = one_each P b term values (λ value after e. stays b term value after h e)
    at (Some known) = (h, tt)

chosen_known : (term : Term) (values : List Value) (b : Binds) → Each (λ c. Known c term) (chosen_for term values b)
chosen_known term values b = at (known_value b term) refl
  where
    at : (k : Option Value) → known_value b term ≡ k → Each (λ c. Known c term) (chosen_at term values b k)
    at None e = one_each (λ c. Known c term) b term values (λ value after e. bound_known b term value after e)
    at (Some known) e = ((known, e), tt)

chosen_all_keep : (P : Binds → Type 0) → Stays P → (term : Term) (values : List Value) (bs : List Binds) → Each P bs
    → Each P (flat_map (chosen_for term values) bs)
chosen_all_keep P stays term values [] h = tt
chosen_all_keep P stays term values (b ∷ bs) h =
    each_append P (chosen_for term values b) (flat_map (chosen_for term values) bs) (chosen_keeps P stays term values b h.0)
    (chosen_all_keep P stays term values bs h.1)

chosen_all_known : (term : Term) (values : List Value) (bs : List Binds) → Each (λ c. Known c term) (flat_map (chosen_for term values) bs)
chosen_all_known term values [] = tt
chosen_all_known term values (b ∷ bs) =
    each_append (λ c. Known c term) (chosen_for term values b) (flat_map (chosen_for term values) bs) (chosen_known term values b)
    (chosen_all_known term values bs)

pub known_stays : (term : Term) → Stays (λ b. Known b term)
known_stays other b term value after h e = bound_keeps b term value after other h e

pub closing_keeps : (P : Binds → Type 0) → Stays P → (choices : Term → List Value) (feats : List (ℕ × Term)) (bs : List Binds) → Each P bs
    → Each P (closing choices feats bs)
closing_keeps P stays choices [] bs h = h
closing_keeps P stays choices (q ∷ feats) bs h = closing_keeps P stays choices feats _ (chosen_all_keep P stays q.1 (choices q.1) bs h)

pub closing_known : (choices : Term → List Value) (feats : List (ℕ × Term)) (bs : List Binds) → Each (KnownAll feats) (closing choices feats bs)
closing_known choices [] bs = all_units bs
  where
    all_units : (xs : List Binds) → Each (KnownAll []) xs
    all_units [] = tt
    all_units (x ∷ xs) = (tt, all_units xs)
closing_known choices (q ∷ feats) bs =
    let cs = flat_map (chosen_for q.1 (choices q.1)) bs in
    each_both (λ b. Known b q.1) (KnownAll feats) (closing choices feats cs)
    (closing_keeps (λ b. Known b q.1) (known_stays q.1) choices feats cs (chosen_all_known q.1 (choices q.1) bs)) (closing_known choices feats cs)

pub all_stays : (feats : List (ℕ × Term)) → Stays (KnownAll feats)
all_stays [] b term value after h e = tt
all_stays (q ∷ feats) b term value after h e = (bound_keeps b term value after q.1 h.0 e, all_stays feats b term value after h.1 e)

pub patterns_stay : (ps : List Pattern) → Stays (KnownPatterns ps)
patterns_stay [] b term value after h e = tt
patterns_stay (p ∷ ps) b term value after h e = (all_stays p.cat.feats b term value after h.0 e, patterns_stay ps b term value after h.1 e)

pub closing_patterns_keeps : (P : Binds → Type 0) → Stays P → (choices : Term → List Value) (ps : List Pattern) (bs : List Binds) → Each P bs
    → Each P (closing_patterns choices ps bs)
closing_patterns_keeps P stays choices [] bs h = h
closing_patterns_keeps P stays choices (p ∷ ps) bs h = closing_patterns_keeps P stays choices ps _ (closing_keeps P stays choices p.cat.feats bs h)

pub closing_patterns_known : (choices : Term → List Value) (ps : List Pattern) (bs : List Binds) → Each (KnownPatterns ps) (closing_patterns choices ps bs)
closing_patterns_known choices [] bs = all_units bs
  where
    all_units : (xs : List Binds) → Each (KnownPatterns []) xs
    all_units [] = tt
    all_units (x ∷ xs) = (tt, all_units xs)
closing_patterns_known choices (p ∷ ps) bs =
    let cs = closing choices p.cat.feats bs in
    each_both (KnownAll p.cat.feats) (KnownPatterns ps) (closing_patterns choices ps cs)
    (closing_patterns_keeps (KnownAll p.cat.feats) (all_stays p.cat.feats) choices ps cs (closing_known choices p.cat.feats bs))
    (closing_patterns_known choices ps cs)

-- what is known is as in the instance
pub known_same : (v b : Binds) (term : Term) → Extends v b → Known b term → term_value v term ≡ term_value b term
known_same v b (Val known) h k = refl
known_same v b (Var x) h k = extends_lookup v b x k.0 h k.1 ∙ sym (ap (λ o. unwrap_or o (Atom 0)) k.1)

pub feats_same : (v b : Binds) (feats : List (ℕ × Term)) → Extends v b → KnownAll feats b → feats_under v feats ≡ feats_under b feats
feats_same v b [] h k = refl
feats_same v b (q ∷ feats) h k =
    ap (λ x. (q.0, x) ∷ feats_under v feats) (known_same v b q.1 h k.0) ∙ ap (λ xs. (q.0, term_value b q.1) ∷ xs) (feats_same v b feats h k.1)

pub tests_same : (v b : Binds) (ps : List Pattern) → Extends v b → KnownPatterns ps b → tests_under v ps ≡ tests_under b ps
tests_same v b [] h k = refl
tests_same v b (p ∷ ps) h k =
    ap (λ f. record { name = p.cat.name; values = f } ∷ tests_under v ps) (feats_same v b p.cat.feats h k.0)
    ∙ ap (λ ts. under b p.cat ∷ ts) (tests_same v b ps h k.1)

-- assignments that all know the term are chosen alone

pub know_push : {X : Type 0} (f : X → List X) (xs : List X) (x : X) → flat_map f xs ≡ xs → f x ≡ x ∷ [] → flat_map f (xs ++ x ∷ []) ≡ xs ++ x ∷ []
know_push f xs x h k = flat_map-append f xs (x ∷ []) ∙ ap (λ a. a ++ flat_map f (x ∷ [])) h ∙ ap (λ a. xs ++ a) (append-nil (f x) ∙ k)

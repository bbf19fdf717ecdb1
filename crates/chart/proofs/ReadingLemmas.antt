-- What tokens read as: the words of their readings, and those that have none.
use Rattle.std.proofs.Common.{◌≡◌, ℕ, suc, zero, ◌+◌, ◌<◌, List, [], ◌∷◌, ◌++◌, Bool, true, false, ◌&&◌, ◌||◌, map, length, get_or, Some, ◌≤◌, ◌⊎◌, inl, inr, append-nil, refl, sym, ap, ◌∙◌, subst, arith}
use Rattle.std.specs.Prelude.{if◌then◌else◌, ◌==◌, not, slice_get}
use Rattle.std.specs.List.{list_all}
use Rattle.std.specs.Str.{bytes_eq}
use Rattle.std.proofs.lemmas.Bool.{cases_lt, or_parts}
use Rattle.std.proofs.lemmas.Option.{same_Some}
use Rattle.std.proofs.lemmas.Slice.Eq.{bytes_eq-Decides}
use Rattle.std.proofs.Math.Bool.{and-true, or-false}
use Rattle.codeco_terms.specs.declared.values.Value.{Value}
use Rattle.codeco_terms.specs.declared.values.Value.TheVariants.{Atom, Word as TheWord}
use Rattle.codeco_terms.specs.declared.categories.Ground.{Ground}
use Rattle.codeco_terms.specs.Values.{same_value}
use Rattle.wiki_base.specs.declared.numbers.WordId.{WordId}
use Rattle.lexicon.proofs.Reading.{readings_from_none}
use Rattle.scopes.specs.Resolution.{has_value}
use Rattle.lexicon.specs.declared.kinds.Kind.{Kind}
use Rattle.lexicon.specs.declared.kinds.Kind.TheVariants as kind
use Rattle.lexicon.specs.declared.words.Word.{Word}
use Rattle.lexicon.specs.Kinds.{form_count}
use Rattle.lexicon.specs.Words.{Listed, IsLexicon, is_among, has_form}
use Rattle.lexicon.specs.Terminals.{raised, is_spelling_of, is_reserved}
use Rattle.lexicon.specs.Readings.{begins_with_vowel, vow_of, number_at, form_at, reading, readings_from, readings_of_word, readings_of}
use Rattle.derivation_trees.specs.Cutting.{is_terminal}
use Rattle.chart_table.specs.Branches.{OneOf}
use Rattle.chart.specs.Offers.{has_in, is_used}
use Rattle.chart.proofs.TurnedLemmas.{turned, turned_ground}
use Rattle.chart.proofs.SwapLemmas.{lacks_value, lacks_in, lacks_word, HasWord}

-- a place in a list
pub at_slice : {X : Type 0} (xs : List X) (i : ℕ) (x : X) → slice_get xs i ≡ Some x → (i < length xs) × (get_or xs i x ≡ x)
at_slice [] i x h = absurd (cc)
at_slice (y ∷ ys) zero x h = (omega arith, same_Some y x h)
at_slice (y ∷ ys) (suc i) x h = let r = at_slice ys i x h in let lt : i < length ys = r.0 in (omega arith, r.1)

-- the word of a reading

pub reading_has : (k : Kind) (id : WordId) (place : ℕ) (form : List ℕ) (v : Value) → has_value (reading k id place form).vals (3, v) ≡ same_value (TheWord id) v
reading_has kind.Name id place form v = or-false (same_value (TheWord id) v)
reading_has kind.Noun id place form v = or-false (same_value (TheWord id) v)
reading_has kind.Of id place form v = or-false (same_value (TheWord id) v)
reading_has kind.Verb id place form v = or-false (same_value (TheWord id) v)
reading_has kind.Adjective id place form v = or-false (same_value (TheWord id) v)

from_has : (k : Kind) (id : WordId) (token : List ℕ) (place : ℕ) (forms : List (List ℕ)) (v : Value)
    → has_in (readings_from k id token place forms) v ≡ (is_among forms token && same_value (TheWord id) v)
from_has k id token place [] v = refl
from_has k id token place (form ∷ forms) v = at (bytes_eq token form) (from_has k id token (place + 1) forms v)
  where
    absorbed : (a b : Bool) → (a || (b && a)) ≡ a
    absorbed true b = refl
    absorbed false true = refl
    absorbed false false = refl

    at : (b : Bool) → has_in (readings_from k id token (place + 1) forms) v ≡ (is_among forms token && same_value (TheWord id) v)
        → has_in (if b then reading k id place form ∷ readings_from k id token (place + 1) forms else readings_from k id token (place + 1) forms) v
        ≡ ((b || is_among forms token) && same_value (TheWord id) v)
    at true h =
        ap (λ c. c || has_in (readings_from k id token (place + 1) forms) v) (reading_has k id place form v) ∙ ap (λ c. same_value (TheWord id) v || c) h
        ∙ absorbed (same_value (TheWord id) v) (is_among forms token)
    at false h = h

-- the readings of a form of a word have this word and no other
pub word_in_form : (word : Word) (token : List ℕ) → has_form token word ≡ true → HasWord (readings_of_word token word) word.id.0
word_in_form word token has v =
    from_has word.forms.kind word.id token 0 word.forms.texts v ∙ ap (λ b. b && same_value (TheWord word.id) v) has

-- which readings there are

pub from_at : (k : Kind) (id : WordId) (token : List ℕ) (place : ℕ) (forms : List (List ℕ)) (j : ℕ) → slice_get forms j ≡ Some token
    → OneOf (readings_from k id token place forms) (reading k id (place + j) token)
from_at k id token place [] j h = absurd (cc)
from_at k id token place (form ∷ forms) zero h =
    let same : form ≡ token = same_Some form token h in
    let zero_more : place ≡ place + 0 = omega arith in
    subst (λ b. OneOf (if b then reading k id place form ∷ readings_from k id token (place + 1) forms else readings_from k id token (place + 1) forms)
    (reading k id (place + 0) token)) (sym ((bytes_eq-Decides token form).1 (sym same)))
    (inl (ap (reading k id place) same ∙ ap (λ p. reading k id p token) zero_more))
from_at k id token place (form ∷ forms) (suc j) h =
    at (bytes_eq token form) (subst (λ p. OneOf (readings_from k id token (place + 1) forms) (reading k id p token)) next
    (from_at k id token (place + 1) forms j h))
  where
    next : place + 1 + j ≡ place + suc j
    next = omega arith

    at : (b : Bool) → OneOf (readings_from k id token (place + 1) forms) (reading k id (place + suc j) token)
        → OneOf (if b then reading k id place form ∷ readings_from k id token (place + 1) forms else readings_from k id token (place + 1) forms)
        (reading k id (place + suc j) token)
    at true o = inr o
    at false o = o

pub from_is : (k : Kind) (id : WordId) (token : List ℕ) (place : ℕ) (forms : List (List ℕ)) (r : Ground) → OneOf (readings_from k id token place forms) r
    → (j : ℕ) × (slice_get forms j ≡ Some token) × (reading k id (place + j) token ≡ r)
from_is k id token place [] r o = absurd o
from_is k id token place (form ∷ forms) r o = at (bytes_eq token form) refl (λ p. later (from_is k id token (place + 1) forms r p)) o
  where
    later : (j : ℕ) × (slice_get forms j ≡ Some token) × (reading k id (place + 1 + j) token ≡ r)
        → (j : ℕ) × (slice_get (form ∷ forms) j ≡ Some token) × (reading k id (place + j) token ≡ r)
    later h =
        let next : place + suc h.0 ≡ place + 1 + h.0 = omega arith in
        (suc h.0, h.1, ap (λ q. reading k id q token) next ∙ h.2)

    at : (b : Bool) → bytes_eq token form ≡ b
        → (OneOf (readings_from k id token (place + 1) forms) r → (j : ℕ) × (slice_get (form ∷ forms) j ≡ Some token) × (reading k id (place + j) token ≡ r))
        → OneOf (if b then reading k id place form ∷ readings_from k id token (place + 1) forms else readings_from k id token (place + 1) forms) r
        → (j : ℕ) × (slice_get (form ∷ forms) j ≡ Some token) × (reading k id (place + j) token ≡ r)
    at true e further (inl is) =
        let same : token ≡ form = (bytes_eq-Decides token form).0 e in
        let none_more : place + 0 ≡ place = omega arith in
        (0, ap Some (sym same), ap (λ q. reading k id q token) none_more ∙ ap (reading k id place) same ∙ is)
    at true e further (inr p) = further p
    at false e further p = further p

-- a text that stands among the forms
pub form_among : (forms : List (List ℕ)) (j : ℕ) (token : List ℕ) → slice_get forms j ≡ Some token → is_among forms token ≡ true
form_among [] j token h = absurd (cc)
form_among (form ∷ forms) zero token h = ap (λ b. b || is_among forms token) ((bytes_eq-Decides token form).1 (sym (same_Some form token h)))
form_among (form ∷ forms) (suc j) token h = at (bytes_eq token form) (form_among forms j token h)
  where
    at : (b : Bool) → is_among forms token ≡ true → (b || is_among forms token) ≡ true
    at true e = refl
    at false e = e

none_read : (live : List Word) (token : List ℕ) → ((j : ℕ) (word : Word) → slice_get live j ≡ Some word → has_form token word ≡ false)
    → readings_of live token ≡ []
none_read [] token h = refl
none_read (word ∷ live) token h =
    ap (λ l. l ++ readings_of live token) (readings_from_none word.forms.kind word.id token 0 word.forms.texts (h 0 word refl))
    ∙ none_read live token (λ j w e. h (suc j) w e)

one_reads : (live : List Word) (place : ℕ) (word : Word) (token : List ℕ) → slice_get live place ≡ Some word
    → ((j : ℕ) (other : Word) → slice_get live j ≡ Some other → (j ≡ place → ⊥) → has_form token other ≡ false)
    → readings_of live token ≡ readings_of_word token word
one_reads [] place word token lives alone = absurd (cc)
one_reads (first ∷ live) zero word token lives alone =
    ap (λ l. readings_of_word token first ++ l) (none_read live token (λ j other e. alone (suc j) other e (λ z. absurd (omega arith))))
    ∙ append-nil (readings_of_word token first) ∙ ap (readings_of_word token) (same_Some first word lives)
one_reads (first ∷ live) (suc place) word token lives alone =
    ap (λ l. l ++ readings_of live token)
    (readings_from_none first.forms.kind first.id token 0 first.forms.texts (alone 0 first refl (λ z. absurd (omega arith))))
    ∙ one_reads live place word token lives (λ j other e n. alone (suc j) other e (λ z. n (omega arith)))

at_default : {X : Type 0} (xs : List X) (i : ℕ) (x d : X) → slice_get xs i ≡ Some x → (i < length xs) × (get_or xs i d ≡ x)
at_default [] i x d h = absurd (cc)
at_default (y ∷ ys) zero x d h = (omega arith, same_Some y x h)
at_default (y ∷ ys) (suc i) x d h = let r = at_default ys i x d h in let lt : i < length ys = r.0 in (omega arith, r.1)

-- no other live word has the form
alone_with : (l : Listed) → IsLexicon l → (place : ℕ) (word : Word) (token : List ℕ) → slice_get l.live place ≡ Some word → has_form token word ≡ true
    → (j : ℕ) (other : Word) → slice_get l.live j ≡ Some other → (j ≡ place → ⊥) → has_form token other ≡ false
alone_with l lexicon place word token lives has j other e apart = by (cases_lt j place)
  where
    here : (place < length l.live) × (get_or l.live place word ≡ word)
    here = at_default l.live place word word lives

    there : (j < length l.live) × (get_or l.live j word ≡ other)
    there = at_default l.live j other word e

    not_true : (b : Bool) → has_form token other ≡ b → (has_form token other ≡ true → has_form token word ≡ false) → has_form token other ≡ false
    not_true true y shares = let z : true ≡ false = sym has ∙ shares y in absurd (cc)
    not_true false y shares = y

    by : (j < place) ⊎ (place ≤ j) → has_form token other ≡ false
    by (inl before) =
        not_true (has_form token other) refl
        (λ y. ap (has_form token) (sym here.1) ∙ lexicon.apart j place word before here.0 token (ap (has_form token) there.1 ∙ y))
    by (inr behind) =
        let lt : place < j = after_place behind (cases_lt place j) in
        ap (has_form token) (sym there.1) ∙ lexicon.apart place j word lt there.0 token (ap (has_form token) here.1 ∙ has)
      where
        after_place : place ≤ j → (place < j) ⊎ (j ≤ place) → place < j
        after_place le (inl lt) = lt
        after_place le (inr ge) = absurd (apart (omega arith))

-- the readings of a form of a live word are those that it has as a form of this word
pub form_reads : (l : Listed) → IsLexicon l → (place : ℕ) (word : Word) (token : List ℕ) → slice_get l.live place ≡ Some word → has_form token word ≡ true
    → readings_of l.live token ≡ readings_of_word token word
form_reads l lexicon place word token lives has =
    one_reads l.live place word token lives (alone_with l lexicon place word token lives has)

-- other numbers for words

number_kept : (h : ℕ → ℕ) (place : ℕ) → turned h (number_at place) ≡ number_at place
number_kept h place = at (place == 0)
  where
    at : (b : Bool) → turned h (if b then Atom 0 else Atom 1) ≡ (if b then Atom 0 else Atom 1)
    at true = refl
    at false = refl

vow_kept : (h : ℕ → ℕ) (form : List ℕ) → turned h (vow_of form) ≡ vow_of form
vow_kept h form = at (begins_with_vowel form)
  where
    at : (b : Bool) → turned h (if b then Atom 2 else Atom 3) ≡ (if b then Atom 2 else Atom 3)
    at true = refl
    at false = refl

form_kept : (h : ℕ → ℕ) (place : ℕ) → turned h (form_at place) ≡ form_at place
form_kept h place = at (place == 0) (place == 1)
  where
    at : (b c : Bool) → turned h (if b then Atom 4 else (if c then Atom 5 else Atom 6)) ≡ (if b then Atom 4 else (if c then Atom 5 else Atom 6))
    at true c = refl
    at false true = refl
    at false false = refl

pub reading_turned : (h : ℕ → ℕ) (k : Kind) (id : WordId) (place : ℕ) (form : List ℕ)
    → turned_ground h (reading k id place form) ≡ reading k (record { 0 = h id.0 }) place form
reading_turned h kind.Name id place form = refl
reading_turned h kind.Noun id place form =
    ap (λ x. record { name = 1; vals = (0, x) ∷ (1, turned h (vow_of form)) ∷ (3, TheWord (record { 0 = h id.0 })) ∷ [] }) (number_kept h place)
    ∙ ap (λ x. record { name = 1; vals = (0, number_at place) ∷ (1, x) ∷ (3, TheWord (record { 0 = h id.0 })) ∷ [] }) (vow_kept h form)
reading_turned h kind.Of id place form =
    ap (λ x. record { name = 2; vals = (1, x) ∷ (3, TheWord (record { 0 = h id.0 })) ∷ [] }) (vow_kept h form)
reading_turned h kind.Verb id place form =
    ap (λ x. record { name = 3; vals = (2, x) ∷ (3, TheWord (record { 0 = h id.0 })) ∷ [] }) (form_kept h place)
reading_turned h kind.Adjective id place form = refl

-- a word that no token has is none of the values of their readings

number_lacks : (a place : ℕ) → lacks_value a (number_at place) ≡ true
number_lacks a place = at (place == 0)
  where
    at : (b : Bool) → lacks_value a (if b then Atom 0 else Atom 1) ≡ true
    at true = refl
    at false = refl

vow_lacks : (a : ℕ) (form : List ℕ) → lacks_value a (vow_of form) ≡ true
vow_lacks a form = at (begins_with_vowel form)
  where
    at : (b : Bool) → lacks_value a (if b then Atom 2 else Atom 3) ≡ true
    at true = refl
    at false = refl

form_lacks : (a place : ℕ) → lacks_value a (form_at place) ≡ true
form_lacks a place = at (place == 0) (place == 1)
  where
    at : (b c : Bool) → lacks_value a (if b then Atom 4 else (if c then Atom 5 else Atom 6)) ≡ true
    at true c = refl
    at false true = refl
    at false false = refl

reading_lacks : (a : ℕ) (k : Kind) (id : WordId) (place : ℕ) (form : List ℕ)
    → list_all (λ p. lacks_value a p.1) (reading k id place form).vals ≡ not (id.0 == a)
reading_lacks a kind.Name id place form = and-true (not (id.0 == a))
reading_lacks a kind.Noun id place form =
    ap (λ b. b && (lacks_value a (vow_of form) && (not (id.0 == a) && true))) (number_lacks a place)
    ∙ ap (λ b. b && (not (id.0 == a) && true)) (vow_lacks a form) ∙ and-true (not (id.0 == a))
reading_lacks a kind.Of id place form = ap (λ b. b && (not (id.0 == a) && true)) (vow_lacks a form) ∙ and-true (not (id.0 == a))
reading_lacks a kind.Verb id place form = ap (λ b. b && (not (id.0 == a) && true)) (form_lacks a place) ∙ and-true (not (id.0 == a))
reading_lacks a kind.Adjective id place form = and-true (not (id.0 == a))

-- the value for the word tells whether the number is among the values
abbrev AllTell : ℕ → List Ground → Type 0
AllTell a [] = Unit {0}
AllTell a (r ∷ rs) = (list_all (λ p. lacks_value a p.1) r.vals ≡ not (has_value r.vals (3, TheWord (record { 0 = a })))) × AllTell a rs

from_tells : (a : ℕ) (k : Kind) (id : WordId) (token : List ℕ) (place : ℕ) (forms : List (List ℕ)) → AllTell a (readings_from k id token place forms)
from_tells a k id token place [] = tt
from_tells a k id token place (form ∷ forms) = at (bytes_eq token form) (from_tells a k id token (place + 1) forms)
  where
    at : (b : Bool) → AllTell a (readings_from k id token (place + 1) forms)
        → AllTell a (if b then reading k id place form ∷ readings_from k id token (place + 1) forms else readings_from k id token (place + 1) forms)
    at true h = (reading_lacks a k id place form ∙ ap not (sym (reading_has k id place form (TheWord (record { 0 = a })))), h)
    at false h = h

tells_append : (a : ℕ) (xs ys : List Ground) → AllTell a xs → AllTell a ys → AllTell a (xs ++ ys)
tells_append a [] ys h k = k
tells_append a (x ∷ xs) ys h k = (h.0, tells_append a xs ys h.1 k)

all_tell : (a : ℕ) (live : List Word) (token : List ℕ) → AllTell a (readings_of live token)
all_tell a [] token = tt
all_tell a (word ∷ live) token =
    tells_append a (readings_of_word token word) (readings_of live token) (from_tells a word.forms.kind word.id token 0 word.forms.texts)
    (all_tell a live token)

none_lacks : (a : ℕ) (rs : List Ground) → AllTell a rs → has_in rs (TheWord (record { 0 = a })) ≡ false → lacks_in a rs ≡ true
none_lacks a [] t h = refl
none_lacks a (r ∷ rs) t h =
    let n = or_parts (has_value r.vals (3, TheWord (record { 0 = a }))) (has_in rs (TheWord (record { 0 = a }))) h in
    ap (λ b. b && lacks_in a rs) (t.0 ∙ ap not n.0) ∙ none_lacks a rs t.1 n.1

pub unused_lacks : (live : List Word) (tokens : List (List ℕ)) (id : WordId) → is_used (map (readings_of live) tokens) id ≡ false
    → lacks_word id.0 (map (readings_of live) tokens) ≡ true
unused_lacks live [] id h = refl
unused_lacks live (token ∷ tokens) id h =
    let n = or_parts (has_in (readings_of live token) (TheWord id)) (is_used (map (readings_of live) tokens) id) h in
    ap (λ b. b && lacks_word id.0 (map (readings_of live) tokens)) (none_lacks id.0 (readings_of live token) (all_tell id.0 live token) n.0)
    ∙ unused_lacks live tokens id n.1

-- terminals and forms

spelled_reserved : (terminals : List (List ℕ)) (token : List ℕ) → is_terminal terminals token ≡ true → is_reserved terminals token ≡ true
spelled_reserved [] token h = absurd (cc)
spelled_reserved (t ∷ ts) token h = at (bytes_eq token t) (is_spelling_of token t) refl refl h (spelled_reserved ts token)
  where
    at : (b c : Bool) → bytes_eq token t ≡ b → is_spelling_of token t ≡ c → (b || is_terminal ts token) ≡ true
        → (is_terminal ts token ≡ true → is_reserved ts token ≡ true) → (c || is_reserved ts token) ≡ true
    at b true e f g rest = refl
    at true false e f g rest = absurd (neither_true (or_parts (bytes_eq token t) (bytes_eq token (raised t)) f).0 e)
      where
        neither_true : bytes_eq token t ≡ false → bytes_eq token t ≡ true → ⊥
        neither_true x y = let z : true ≡ false = sym y ∙ x in absurd (cc)
    at false false e f g rest = rest g

-- no text is both one of the lexicon's terminals and a form of one of its words
pub form_no_terminal : (l : Listed) → IsLexicon l → (place : ℕ) (word : Word) (token : List ℕ) → slice_get l.live place ≡ Some word → has_form token word ≡ true
    → is_terminal l.terminals token ≡ false
form_no_terminal l lexicon place word token lives has = at (is_terminal l.terminals token) refl
  where
    r : (place < length l.live) × (get_or l.live place word ≡ word)
    r = at_slice l.live place word lives

    free : is_reserved l.terminals token ≡ false
    free = lexicon.unreserved place word r.0 token (ap (has_form token) r.1 ∙ has)

    at : (b : Bool) → is_terminal l.terminals token ≡ b → is_terminal l.terminals token ≡ false
    at true e = let z : true ≡ false = sym (spelled_reserved l.terminals token e) ∙ free in absurd (cc)
    at false e = e

-- a terminal has no readings
pub terminal_reads : (l : Listed) → IsLexicon l → (token : List ℕ) → is_terminal l.terminals token ≡ true → readings_of l.live token ≡ []
terminal_reads l lexicon token h = none_read l.live token (λ j word e. at j word e (has_form token word) refl)
  where
    at : (j : ℕ) (word : Word) → slice_get l.live j ≡ Some word → (b : Bool) → has_form token word ≡ b → has_form token word ≡ false
    at j word e true is = let z : true ≡ false = sym h ∙ form_no_terminal l lexicon j word token e is in absurd (cc)
    at j word e false is = is

-- a live word has a form
pub some_form : (l : Listed) → IsLexicon l → (place : ℕ) (word : Word) → slice_get l.live place ≡ Some word → 0 < length word.forms.texts
some_form l lexicon place word lives =
    let r = at_slice l.live place word lives in
    let long : length word.forms.texts ≡ form_count word.forms.kind =
    subst (λ (w : Word). length w.forms.texts ≡ form_count w.forms.kind) r.1 (lexicon.complete place word r.0) in
    subst (λ n. 0 < n) (sym long) (at word.forms.kind)
  where
    at : (k : Kind) → 0 < form_count k
    at kind.Name = omega arith
    at kind.Noun = omega arith
    at kind.Of = omega arith
    at kind.Verb = omega arith
    at kind.Adjective = omega arith

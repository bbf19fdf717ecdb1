-- Two words without a form among the tokens may change places, and a last token that brings no new word may be any other.
use Rattle.std.proofs.Common.{◌≡◌, ℕ, ◌-◌, ◌<◌, List, [], ◌∷◌, Bool, true, false, ◌&&◌, ◌||◌, map, length, length-append, Some, None, refl, sym, ap, ◌∙◌, subst, nat_lt}
use Rattle.std.specs.Prelude.{if◌then◌else◌, ◌==◌, not, option_map, slice_get}
use Rattle.std.specs.Option.{option_map_or}
use Rattle.std.specs.List.{list_any, list_all}
use Rattle.std.specs.Str.{bytes_eq}
use Rattle.std.proofs.lemmas.Option.{slice_get-map}
use Rattle.std.proofs.lemmas.Bool.{eqb-true, eqb-false, eq-eqb, ne_eqb}
use Rattle.std.proofs.lemmas.List.Folds.{list_any-append}
use Rattle.std.proofs.Math.Bool.{or-false}
use Rattle.wiki_base.proofs.ListLaws.{slice_get-append, all_slice_get}
use Rattle.codeco_terms.specs.declared.values.Value.{Value}
use Rattle.codeco_terms.specs.declared.values.Value.TheVariants.{Atom, Word, Pos}
use Rattle.codeco_terms.specs.declared.values.Term.{Term}
use Rattle.codeco_terms.specs.declared.categories.Category.{Category}
use Rattle.codeco_terms.specs.declared.categories.Pattern.{Pattern}
use Rattle.codeco_terms.specs.declared.categories.Ground.{Ground}
use Rattle.codeco_terms.specs.declared.elements.Element.{Element}
use Rattle.codeco_terms.specs.declared.elements.Element.TheVariants.{Terminal, Preterminal, Sub, Position, Opener, Forward, Strong, Back, NoBack}
use Rattle.codeco_terms.specs.declared.rules.Rule.{Rule}
use Rattle.codeco_terms.specs.GrammarParts.{GrammarParts}
use Rattle.codeco_terms.specs.Values.{same_value}
use Rattle.codeco_checked.specs.Sound.{IsSound, is_written, is_written_name, is_written_term, is_written_pattern, is_plain_pattern, is_written_element, is_written_rule, is_empty, ascends}
use Rattle.derivation_trees.specs.Settings.{has_word}
use Rattle.derivation_trees.specs.Derives.{text_category}
use Rattle.chart_table.specs.declared.asks.Ask.{Ask}
use Rattle.chart_table.specs.declared.asks.Ask.TheVariants as ask
use Rattle.chart_table.specs.Asks.{AskLeads}
use Rattle.chart_table.proofs.PassLemmas.{both_true}
use Rattle.chart.specs.Offers.{with_last, has_in}
use Rattle.chart.proofs.TurnedLemmas.{Binds, IsTurn, turned, turned_all, turned_ground, turned_readings, Alike, AllWritten, PatternsWritten, value_same, any_turned, has_turned}
use Rattle.chart.proofs.TurnedTrees.{ElementWritten, BodyWritten, RuleWritten, RulesWritten, turned_ask, ask_turned}

-- the other of two numbers, or the number itself where it is neither
abbrev pub swapped : ℕ → ℕ → ℕ → ℕ
swapped a b x = if x == a then b else (if x == b then a else x)

-- the value isn't the word
abbrev pub lacks_value : ℕ → Value → Bool
lacks_value a (Atom x) = true
lacks_value a (Word w) = not (w.0 == a)
lacks_value a (Pos p) = true

-- the word isn't among the values of readings
abbrev pub lacks_in : ℕ → List Ground → Bool
lacks_in a readings = list_all (λ r. list_all (λ p. lacks_value a p.1) r.vals) readings

-- the word isn't among the values of the readings of tokens
abbrev pub lacks_word : ℕ → List (List Ground) → Bool
lacks_word a readings = list_all (lacks_in a) readings

-- numbers

pub swapped_first : (a b : ℕ) → swapped a b a ≡ b
swapped_first a b = ap (λ t. if t then b else (if a == b then a else a)) (eq-eqb a a refl)

pub swapped_second : (a b : ℕ) → swapped a b b ≡ a
swapped_second a b = at (b == a) refl
  where
    at : (t : Bool) → (b == a) ≡ t → swapped a b b ≡ a
    at true e = ap (λ t. if t then b else (if b == b then a else b)) e ∙ eqb-true b a e
    at false e = ap (λ t. if t then b else (if b == b then a else b)) e ∙ ap (λ t. if t then a else b) (eq-eqb b b refl)

swapped_other : (a b x : ℕ) → (x == a) ≡ false → (x == b) ≡ false → swapped a b x ≡ x
swapped_other a b x n m = ap (λ t. if t then b else (if x == b then a else x)) n ∙ ap (λ t. if t then a else x) m

swapped_twice : (a b x : ℕ) → swapped a b (swapped a b x) ≡ x
swapped_twice a b x = at (x == a) (x == b) refl refl
  where
    at : (t u : Bool) → (x == a) ≡ t → (x == b) ≡ u → swapped a b (swapped a b x) ≡ x
    at true u e f = let is = eqb-true x a e in ap (λ y. swapped a b (swapped a b y)) is ∙ ap (swapped a b) (swapped_first a b) ∙ swapped_second a b ∙ sym is
    at false true e f = let is = eqb-true x b f in ap (λ y. swapped a b (swapped a b y)) is ∙ ap (swapped a b) (swapped_second a b) ∙ swapped_first a b ∙ sym is
    at false false e f = ap (swapped a b) (swapped_other a b x e f) ∙ swapped_other a b x e f

back_same : (a b x y : ℕ) → swapped a b x ≡ swapped a b y → x ≡ y
back_same a b x y e = sym (swapped_twice a b x) ∙ ap (swapped a b) e ∙ swapped_twice a b y

same_tests : (x y u v : ℕ) → (x ≡ y → u ≡ v) → (u ≡ v → x ≡ y) → (x == y) ≡ (u == v)
same_tests x y u v to back = at (u == v) refl
  where
    at : (t : Bool) → (u == v) ≡ t → (x == y) ≡ t
    at true e = eq-eqb x y (back (eqb-true u v e))
    at false e = ne_eqb x y (λ h. eqb-false u v e (to h))

pub swap_turns : (a b : ℕ) → (a ≡ 0 → ⊥) → (b ≡ 0 → ⊥) → IsTurn (swapped a b)
swap_turns a b na nb = record {
  same = λ x y. same_tests (swapped a b x) (swapped a b y) x y (λ e. back_same a b x y e) (λ e. ap (swapped a b) e);
  none = λ x. same_tests (swapped a b x) 0 x 0 (λ e. back_same a b x 0 (e ∙ sym zero_stays)) (λ e. ap (swapped a b) e ∙ zero_stays);
}
  where
    zero_stays : swapped a b 0 ≡ 0
    zero_stays = swapped_other a b 0 (ne_eqb 0 a (λ e. na (sym e))) (ne_eqb 0 b (λ e. nb (sym e)))

-- readings

value_twice : (a b : ℕ) (v : Value) → turned (swapped a b) (turned (swapped a b) v) ≡ v
value_twice a b (Atom x) = refl
value_twice a b (Word w) = ap (λ n. Word (record { 0 = n })) (swapped_twice a b w.0)
value_twice a b (Pos p) = refl

all_twice : (a b : ℕ) (vs : Binds) → turned_all (swapped a b) (turned_all (swapped a b) vs) ≡ vs
all_twice a b [] = refl
all_twice a b (p ∷ vs) = ap (λ v. (p.0, v) ∷ turned_all (swapped a b) (turned_all (swapped a b) vs)) (value_twice a b p.1) ∙ ap (λ l. p ∷ l) (all_twice a b vs)

ground_twice : (a b : ℕ) (r : Ground) → turned_ground (swapped a b) (turned_ground (swapped a b) r) ≡ r
ground_twice a b r = ap (λ vs. record { name = r.name; vals = vs }) (all_twice a b r.vals)

value_stays : (a b : ℕ) (v : Value) → lacks_value a v ≡ true → lacks_value b v ≡ true → turned (swapped a b) v ≡ v
value_stays a b (Atom x) h k = refl
value_stays a b (Word w) h k = ap (λ n. Word (record { 0 = n })) (swapped_other a b w.0 (not_true (w.0 == a) h) (not_true (w.0 == b) k))
  where
    not_true : (t : Bool) → not t ≡ true → t ≡ false
    not_true true e = absurd (cc)
    not_true false e = refl
value_stays a b (Pos p) h k = refl

all_stay : (a b : ℕ) (vs : Binds) → list_all (λ p. lacks_value a p.1) vs ≡ true → list_all (λ p. lacks_value b p.1) vs ≡ true → turned_all (swapped a b) vs ≡ vs
all_stay a b [] h k = refl
all_stay a b (p ∷ vs) h k =
    both_true (lacks_value a p.1) (list_all (λ q. lacks_value a q.1) vs) h (λ h1 h2.
    both_true (lacks_value b p.1) (list_all (λ q. lacks_value b q.1) vs) k (λ k1 k2.
    ap (λ v. (p.0, v) ∷ turned_all (swapped a b) vs) (value_stays a b p.1 h1 k1) ∙ ap (λ l. p ∷ l) (all_stay a b vs h2 k2)))

grounds_stay : (a b : ℕ) (rs : List Ground) → lacks_in a rs ≡ true → lacks_in b rs ≡ true → map (turned_ground (swapped a b)) rs ≡ rs
grounds_stay a b [] h k = refl
grounds_stay a b (r ∷ rs) h k =
    both_true (list_all (λ p. lacks_value a p.1) r.vals) (lacks_in a rs) h (λ h1 h2.
    both_true (list_all (λ p. lacks_value b p.1) r.vals) (lacks_in b rs) k (λ k1 k2.
    ap (λ vs. record { name = r.name; vals = vs } ∷ map (turned_ground (swapped a b)) rs) (all_stay a b r.vals h1 k1)
    ∙ ap (λ l. r ∷ l) (grounds_stay a b rs h2 k2)))

readings_stay : (a b : ℕ) (rss : List (List Ground)) → lacks_word a rss ≡ true → lacks_word b rss ≡ true → turned_readings (swapped a b) rss ≡ rss
readings_stay a b [] h k = refl
readings_stay a b (rs ∷ rss) h k =
    both_true (lacks_in a rs) (lacks_word a rss) h (λ h1 h2.
    both_true (lacks_in b rs) (lacks_word b rss) k (λ k1 k2.
    ap (λ x. x ∷ turned_readings (swapped a b) rss) (grounds_stay a b rs h1 k1) ∙ ap (λ l. rs ∷ l) (readings_stay a b rss h2 k2)))

-- written rules

feats_written : (feats : List (ℕ × Term)) → list_all (λ f. is_written_term f.1) feats ≡ true → AllWritten feats
feats_written [] h = tt
feats_written (q ∷ feats) h = both_true (is_written_term q.1) (list_all (λ f. is_written_term f.1) feats) h (λ a b. (a, feats_written feats b))

category_written : (c : Category) → is_written c ≡ true → AllWritten c.feats
category_written c h = both_true (ascends (map (λ f. f.0) c.feats)) (list_all (λ f. is_written_term f.1) c.feats) h (λ a b. feats_written c.feats b)

pattern_written : (p : Pattern) → is_written_pattern p ≡ true → AllWritten p.cat.feats
pattern_written p h = both_true (is_written_name p.cat) (ascends (map (λ t. t.0) p.taken)) h (λ a _. name_written p.cat a)
  where
    name_written : (c : Category) → is_written_name c ≡ true → AllWritten c.feats
    name_written c k = both_true _ (is_written c) k (λ _ b. category_written c b)

plain_written : (p : Pattern) → is_plain_pattern p ≡ true → AllWritten p.cat.feats
plain_written p h = both_true (is_written_name p.cat) (is_empty p.taken) h (λ a _. both_true _ (is_written p.cat) a (λ _ b. category_written p.cat b))

patterns_written : (ps : List Pattern) → list_all is_written_pattern ps ≡ true → PatternsWritten ps
patterns_written [] h = tt
patterns_written (p ∷ ps) h = both_true (is_written_pattern p) (list_all is_written_pattern ps) h (λ a b. (pattern_written p a, patterns_written ps b))

plains_written : (ps : List Pattern) → list_all is_plain_pattern ps ≡ true → PatternsWritten ps
plains_written [] h = tt
plains_written (p ∷ ps) h = both_true (is_plain_pattern p) (list_all is_plain_pattern ps) h (λ a b. (plain_written p a, plains_written ps b))

element_written : (e : Element) → is_written_element e ≡ true → ElementWritten e
element_written (Terminal t) h = tt
element_written (Preterminal c) h = both_true (nat_lt c.name 5) (is_written c) h (λ _ b. category_written c b)
element_written (Sub c) h = both_true _ (is_written c) h (λ _ b. category_written c b)
element_written (Position x) h = tt
element_written Opener h = tt
element_written (Forward c) h = both_true _ (is_written c) h (λ _ b. category_written c b)
element_written (Strong c) h = both_true _ (is_written c) h (λ _ b. category_written c b)
element_written (Back ps ns) h =
    both_true (not (is_empty ps) && list_all is_written_pattern ps) (list_all is_plain_pattern ns) h
    (λ a b. both_true (not (is_empty ps)) (list_all is_written_pattern ps) a (λ _ c. (patterns_written ps c, plains_written ns b)))
element_written (NoBack ps) h = both_true (not (is_empty ps)) (list_all is_plain_pattern ps) h (λ _ b. plains_written ps b)

body_written : (es : List Element) → list_all is_written_element es ≡ true → BodyWritten es
body_written [] h = tt
body_written (e ∷ es) h = both_true (is_written_element e) (list_all is_written_element es) h (λ a b. (element_written e a, body_written es b))

RuleWritten-from_test : (r : Rule) → is_written_rule r ≡ true → RuleWritten r
RuleWritten-from_test r h = both_true (is_written_name r.head) (list_all is_written_element r.body) h
    (λ a b. (both_true _ (is_written r.head) a (λ _ c. category_written r.head c), body_written r.body b))

pub rules_written : (g : GrammarParts) → IsSound g → RulesWritten g
rules_written g sound number rule has = at (number == 0) has
  where
    at : (t : Bool) → (if t then None else slice_get g.rules (number - 1)) ≡ Some rule → RuleWritten rule
    at true e = absurd (cc)
    at false e = RuleWritten-from_test rule (all_slice_get is_written_rule g.rules (number - 1) rule sound.written.rules e)

-- settings that differ in the last token

alike_last : (h : ℕ → ℕ) (g : GrammarParts) (tokens : List (List ℕ)) (rs : List (List Ground)) (one other : List ℕ) (q r : List Ground)
    → length rs ≡ length tokens → turned_readings h rs ≡ rs
    → ((v : Value) → has_word (with_last g tokens rs other r) (turned h v) ≡ has_word (with_last g tokens rs one q) v)
    → Alike (length tokens) h (with_last g tokens rs one q) (with_last g tokens rs other r)
alike_last h g tokens rs one other q r long stays words = record {
  grammar = refl;
  count = length-append tokens (other ∷ []) ∙ sym (length-append tokens (one ∷ []));
  terminals = λ t place lt. ap (λ o. option_map_or (λ token. option_map_or (bytes_eq token) (slice_get g.terminals t) false) o false)
      (slice_get-append tokens (other ∷ []) place lt ∙ sym (slice_get-append tokens (one ∷ []) place lt));
  readings = λ place lt.
      let below : place < length rs = subst (λ k. place < k) (sym long) lt in
      slice_get-append rs (r ∷ []) place below ∙ ap (λ x. slice_get x place) (sym stays) ∙ slice_get-map (map (turned_ground h)) rs place
      ∙ ap (option_map (map (turned_ground h))) (sym (slice_get-append rs (q ∷ []) place below));
  words = words;
}

-- the words of the readings before the last token
abbrev words_in : List (List Ground) → Value → Bool
words_in rs v = list_any (λ one. has_in one v) rs

pub last_words : (g : GrammarParts) (tokens : List (List ℕ)) (rs : List (List Ground)) (one : List ℕ) (q : List Ground) (v : Value)
    → has_word (with_last g tokens rs one q) v ≡ (words_in rs v || has_in q v)
last_words g tokens rs one q v =
    list_any-append (λ readings. has_in readings v) rs (q ∷ []) ∙ ap (λ b. words_in rs v || b) (or-false (has_in q v))

words_turned : (h : ℕ → ℕ) → IsTurn h → (rs : List (List Ground)) (v : Value) → turned_readings h rs ≡ rs → words_in rs (turned h v) ≡ words_in rs v
words_turned h t rs v stays =
    ap (λ x. words_in x (turned h v)) (sym stays)
    ∙ any_turned _ _ (map (turned_ground h)) rs (λ readings. any_turned _ _ (turned_ground h) readings (λ r. has_turned h t r.vals (3, v)))

last_turned : (h : ℕ → ℕ) → IsTurn h → (g : GrammarParts) (tokens : List (List ℕ)) (rs : List (List Ground)) (one other : List ℕ) (q r : List Ground)
    → turned_readings h rs ≡ rs → ((v : Value) → has_in r (turned h v) ≡ has_in q v) → (v : Value)
    → has_word (with_last g tokens rs other r) (turned h v) ≡ has_word (with_last g tokens rs one q) v
last_turned h t g tokens rs one other q r stays same v =
    last_words g tokens rs other r (turned h v) ∙ ap (λ b. b || has_in r (turned h v)) (words_turned h t rs v stays) ∙ ap (λ b. words_in rs v || b) (same v)
    ∙ sym (last_words g tokens rs one q v)

-- what is asked for, of the category of sentences, at the place of the last token
abbrev pub Asked : GrammarParts → List (List ℕ) → List (List Ground) → List ℕ → List Ground → Ask → Type 0
Asked g tokens rs token read asks =
    AskLeads (with_last g tokens rs token read) (length tokens) asks text_category (record { place = 0; list = [] })

-- a last token that reads with one new word, and another that reads with another new word

-- the readings have this word and no other
abbrev pub HasWord : List Ground → ℕ → Type 0
HasWord q w = (v : Value) → has_in q v ≡ same_value (Word (record { 0 = w })) v

value_of_swapped : (a b : ℕ) (q r : List Ground) → (a ≡ 0 → ⊥) → (b ≡ 0 → ⊥) → HasWord q a → HasWord r b → (v : Value)
    → has_in r (turned (swapped a b) v) ≡ has_in q v
value_of_swapped a b q r na nb hq hr v =
    hr (turned (swapped a b) v) ∙ ap (λ x. same_value (Word (record { 0 = x })) (turned (swapped a b) v)) (sym (swapped_first a b))
    ∙ same (Word (record { 0 = a })) v ∙ sym (hq v)
  where
    same : (x y : Value) → same_value (turned (swapped a b) x) (turned (swapped a b) y) ≡ same_value x y
    same x y = value_same (swapped a b) (swap_turns a b na nb) x y

value_of_swapped_back : (a b : ℕ) (q r : List Ground) → (a ≡ 0 → ⊥) → (b ≡ 0 → ⊥) → HasWord q a → HasWord r b → (v : Value)
    → has_in q (turned (swapped a b) v) ≡ has_in r v
value_of_swapped_back a b q r na nb hq hr v =
    hq (turned (swapped a b) v) ∙ ap (λ x. same_value (Word (record { 0 = x })) (turned (swapped a b) v)) (sym (swapped_second a b))
    ∙ same (Word (record { 0 = b })) v ∙ sym (hr v)
  where
    same : (x y : Value) → same_value (turned (swapped a b) x) (turned (swapped a b) y) ≡ same_value x y
    same x y = value_same (swapped a b) (swap_turns a b na nb) x y

-- two new words may change places in what is asked for
pub asked_new : (g : GrammarParts) (tokens : List (List ℕ)) (rs : List (List Ground)) (one other : List ℕ) (q r : List Ground) (a b : ℕ) → IsSound g
    → length rs ≡ length tokens → (a ≡ 0 → ⊥) → (b ≡ 0 → ⊥) → lacks_word a rs ≡ true → lacks_word b rs ≡ true → HasWord q a → HasWord r b → (x : Ground)
    → (Asked g tokens rs one q (ask.Reading x) → Asked g tokens rs other r (ask.Reading (turned_ground (swapped a b) x)))
    × (Asked g tokens rs other r (ask.Reading (turned_ground (swapped a b) x)) → Asked g tokens rs one q (ask.Reading x))
asked_new g tokens rs one other q r a b sound long na nb la lb hq hr x =
    let h = swapped a b in
    let t = swap_turns a b na nb in
    let stays = readings_stay a b rs la lb in
    let forth = alike_last h g tokens rs one other q r long stays (last_turned h t g tokens rs one other q r stays (value_of_swapped a b q r na nb hq hr)) in
    let back = alike_last h g tokens rs other one r q long stays
    (last_turned h t g tokens rs other one r q stays (value_of_swapped_back a b q r na nb hq hr)) in (
      λ l. ask_turned (length tokens) h t (with_last g tokens rs one q) (with_last g tokens rs other r) forth (rules_written g sound) (ask.Reading x)
          text_category (record { place = 0; list = [] }) l,
      λ l. subst (λ y. Asked g tokens rs one q (ask.Reading y)) (ground_twice a b x)
          (ask_turned (length tokens) h t (with_last g tokens rs other r) (with_last g tokens rs one q) back (rules_written g sound)
          (ask.Reading (turned_ground h x)) text_category (record { place = 0; list = [] }) l),
    )

-- a last token that brings no new word, and another that has no readings

value_kept : (v : Value) → turned (λ x. x) v ≡ v
value_kept (Atom x) = refl
value_kept (Word w) = refl
value_kept (Pos p) = refl

all_kept : (vs : Binds) → turned_all (λ x. x) vs ≡ vs
all_kept [] = refl
all_kept (p ∷ vs) = ap (λ v. (p.0, v) ∷ turned_all (λ x. x) vs) (value_kept p.1) ∙ ap (λ l. p ∷ l) (all_kept vs)

ground_kept : (r : Ground) → turned_ground (λ x. x) r ≡ r
ground_kept r = ap (λ vs. record { name = r.name; vals = vs }) (all_kept r.vals)

grounds_kept : (rs : List Ground) → map (turned_ground (λ x. x)) rs ≡ rs
grounds_kept [] = refl
grounds_kept (r ∷ rs) = ap (λ x. x ∷ map (turned_ground (λ y. y)) rs) (ground_kept r) ∙ ap (λ l. r ∷ l) (grounds_kept rs)

readings_kept : (rss : List (List Ground)) → turned_readings (λ x. x) rss ≡ rss
readings_kept [] = refl
readings_kept (rs ∷ rss) = ap (λ x. x ∷ turned_readings (λ y. y) rss) (grounds_kept rs) ∙ ap (λ l. rs ∷ l) (readings_kept rss)

ask_kept : (asks : Ask) → turned_ask (λ x. x) asks ≡ asks
ask_kept ask.Any = refl
ask_kept (ask.Terminal number) = refl
ask_kept (ask.Reading r) = ap ask.Reading (ground_kept r)

none_turns : IsTurn (λ x. x)
none_turns = record { same = λ x y. refl; none = λ x. refl }

asked_kept : (g : GrammarParts) (tokens : List (List ℕ)) (rs : List (List Ground)) (one other : List ℕ) (q r : List Ground) → IsSound g
    → length rs ≡ length tokens → ((v : Value) → has_word (with_last g tokens rs other r) v ≡ has_word (with_last g tokens rs one q) v) → (asks : Ask)
    → Asked g tokens rs one q asks → Asked g tokens rs other r asks
asked_kept g tokens rs one other q r sound long same asks l =
    let alike = alike_last (λ x. x) g tokens rs one other q r long (readings_kept rs)
    (λ v. ap (has_word (with_last g tokens rs other r)) (value_kept v) ∙ same v) in
    subst (Asked g tokens rs other r) (ask_kept asks)
    (ask_turned (length tokens) (λ x. x) none_turns (with_last g tokens rs one q) (with_last g tokens rs other r) alike (rules_written g sound) asks
    text_category (record { place = 0; list = [] }) l)

-- the words of the last token are among those of the others
abbrev pub BringsNone : List (List Ground) → List Ground → Type 0
BringsNone rs q = (v : Value) → has_in q v ≡ true → list_any (λ one. has_in one v) rs ≡ true

same_words : (g : GrammarParts) (tokens : List (List ℕ)) (rs : List (List Ground)) (one other : List ℕ) (q : List Ground) → BringsNone rs q → (v : Value)
    → has_word (with_last g tokens rs other []) v ≡ has_word (with_last g tokens rs one q) v
same_words g tokens rs one other q brings v =
    last_words g tokens rs other [] v ∙ at (words_in rs v) (has_in q v) (brings v) ∙ sym (last_words g tokens rs one q v)
  where
    at : (a b : Bool) → (b ≡ true → a ≡ true) → (a || false) ≡ (a || b)
    at true b h = refl
    at false true h = h refl
    at false false h = refl

pub asked_old : (g : GrammarParts) (tokens : List (List ℕ)) (rs : List (List Ground)) (one other : List ℕ) (q : List Ground) → IsSound g
    → length rs ≡ length tokens → BringsNone rs q → (asks : Ask)
    → (Asked g tokens rs one q asks → Asked g tokens rs other [] asks) × (Asked g tokens rs other [] asks → Asked g tokens rs one q asks)
asked_old g tokens rs one other q sound long brings asks = (
  λ l. asked_kept g tokens rs one other q [] sound long (same_words g tokens rs one other q brings) asks l,
  λ l. asked_kept g tokens rs other one [] q sound long (λ v. sym (same_words g tokens rs one other q brings v)) asks l,
)

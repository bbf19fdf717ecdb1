-- Words without a form among the earlier tokens differ by their numbers alone: where other numbers are given to words, one to
-- one, all derivations stay, with those numbers.
use Rattle.std.proofs.Common.{◌≡◌, ℕ, ◌+◌, ◌<◌, List, [], ◌∷◌, Bool, true, false, ◌&&◌, ◌||◌, map, length, Option, Some, None, refl, ap, ◌∙◌, cond, nat_lt, nat_le}
use Rattle.std.specs.Prelude.{if◌then◌else◌, ◌==◌, not, option_map, slice_get, unwrap_or}
use Rattle.std.specs.Option.{option_map_or}
use Rattle.std.specs.List.{list_any, list_all, filter_map, cons_option, flat_map, prefix_len, position}
use Rattle.std.proofs.lemmas.List.{drop-map}
use Rattle.wiki_base.proofs.ListLaws.{length_mapped}
use Rattle.codeco_terms.specs.declared.values.Value.{Value}
use Rattle.codeco_terms.specs.declared.values.Value.TheVariants.{Atom, Word, Pos}
use Rattle.codeco_terms.specs.declared.values.Term.{Term}
use Rattle.codeco_terms.specs.declared.values.Term.TheVariants.{Val, Var}
use Rattle.codeco_terms.specs.declared.categories.Category.{Category}
use Rattle.codeco_terms.specs.declared.categories.Pattern.{Pattern}
use Rattle.codeco_terms.specs.declared.categories.Ground.{Ground}
use Rattle.codeco_terms.specs.declared.declarations.Declared.{Declared}
use Rattle.codeco_terms.specs.declared.declarations.Declared.TheVariants as declared
use Rattle.codeco_terms.specs.declared.rules.Rule.{Rule}
use Rattle.codeco_terms.specs.GrammarParts.{GrammarParts}
use Rattle.codeco_terms.specs.Values.{same_value}
use Rattle.codeco_checked.specs.Faults.{values_of}
use Rattle.codeco_checked.specs.Occurrences.{rule_features, positions}
use Rattle.codeco_checked.specs.Sound.{is_written_term}
use Rattle.scopes.specs.declared.entries.Entry.{Entry}
use Rattle.scopes.specs.declared.entries.Entry.TheVariants as entry
use Rattle.scopes.specs.declared.agreement.Test.{Test}
use Rattle.scopes.specs.declared.agreement.Tests.{Tests}
use Rattle.scopes.specs.AccessList.{closed, strong_referents, introduced}
use Rattle.scopes.specs.Resolution.{Finding, finding, finding_at, has_value, agrees, is_agreeing, closest_finding, last_of}
use Rattle.derivation_trees.specs.Settings.{Setting, matches_terminal, matches_preterminal, has_word, is_value, fits_feature}
use Rattle.derivation_trees.specs.Instances.{looked_up, unwritten, value_under, term_value, feats_under, under, tests_under, term_fits, own_fit, own_values, variables_of, same_numbers, rule_own_features, written_variables, is_instance, features_of}
use Rattle.derivation_trees.specs.Derives.{first_value, filled_value, own_after, filled, own_rest, referent, takes, is_found, reference_tests, fits}

abbrev pub Binds : Type 0
Binds = List (ℕ × Value)

-- other numbers for words, one to one, and 0 for 0
pub record IsTurn (h : ℕ → ℕ) : Type 0 where
  pub same : (x y : ℕ) → (h x == h y) ≡ (x == y)
  pub none : (x : ℕ) → (h x == 0) ≡ (x == 0)

abbrev pub turned : (ℕ → ℕ) → Value → Value
turned h (Atom a) = Atom a
turned h (Word w) = Word (record { 0 = h w.0 })
turned h (Pos p) = Pos p

abbrev pub turned_pair : (ℕ → ℕ) → (ℕ × Value) → (ℕ × Value)
turned_pair h p = (p.0, turned h p.1)

abbrev pub turned_all : (ℕ → ℕ) → Binds → Binds
turned_all h vs = map (turned_pair h) vs

abbrev pub turned_ground : (ℕ → ℕ) → Ground → Ground
turned_ground h r = record { name = r.name; vals = turned_all h r.vals }

abbrev pub turned_test : (ℕ → ℕ) → Test → Test
turned_test h t = record { name = t.name; values = turned_all h t.values }

abbrev pub turned_tests : (ℕ → ℕ) → Tests → Tests
turned_tests h t = record { positive = map (turned_test h) t.positive; negative = map (turned_test h) t.negative }

abbrev pub turned_entry : (ℕ → ℕ) → Entry → Entry
turned_entry h entry.Opener = entry.Opener
turned_entry h (entry.Weak r p) = entry.Weak (turned_ground h r) p
turned_entry h (entry.Strong r p) = entry.Strong (turned_ground h r) p

abbrev pub turned_list : (ℕ → ℕ) → List Entry → List Entry
turned_list h list = map (turned_entry h) list

abbrev pub turned_finding : (ℕ → ℕ) → Finding → Finding
turned_finding h f = record { pos = f.pos; referent = turned_ground h f.referent; pattern = f.pattern }

-- values

pub value_same : (h : ℕ → ℕ) → IsTurn h → (v w : Value) → same_value (turned h v) (turned h w) ≡ same_value v w
value_same h t (Atom a) (Atom b) = refl
value_same h t (Atom a) (Word w) = refl
value_same h t (Atom a) (Pos p) = refl
value_same h t (Word v) (Atom b) = refl
value_same h t (Word v) (Word w) = t.same v.0 w.0
value_same h t (Word v) (Pos p) = refl
value_same h t (Pos p) (Atom b) = refl
value_same h t (Pos p) (Word w) = refl
value_same h t (Pos p) (Pos q) = refl

looked_up_turned : (h : ℕ → ℕ) (vs : Binds) (x : ℕ) → looked_up (turned_all h vs) x ≡ option_map (turned h) (looked_up vs x)
looked_up_turned h [] x = refl
looked_up_turned h (p ∷ vs) x = at (looked_up_turned h vs x) (p.0 == x)
  where
    at : looked_up (turned_all h vs) x ≡ option_map (turned h) (looked_up vs x) → (b : Bool)
        → (if b then Some (turned h p.1) else looked_up (turned_all h vs) x) ≡ option_map (turned h) (if b then Some p.1 else looked_up vs x)
    at rest true = refl
    at rest false = rest

pub value_turned : (h : ℕ → ℕ) (vs : Binds) (x : ℕ) → value_under (turned_all h vs) x ≡ turned h (value_under vs x)
value_turned h vs x = ap (λ o. unwrap_or o (Atom 0)) (looked_up_turned h vs x) ∙ at (looked_up vs x)
  where
    at : (o : Option Value) → unwrap_or (option_map (turned h) o) (Atom 0) ≡ turned h (unwrap_or o (Atom 0))
    at None = refl
    at (Some v) = refl

-- a written term is an atom or a variable
term_turned : (h : ℕ → ℕ) (vs : Binds) (term : Term) → is_written_term term ≡ true → term_value (turned_all h vs) term ≡ turned h (term_value vs term)
term_turned h vs (Val (Atom a)) w = refl
term_turned h vs (Val (Word u)) w = absurd (cc)
term_turned h vs (Val (Pos p)) w = absurd (cc)
term_turned h vs (Var x) w = value_turned h vs x

abbrev pub AllWritten : List (ℕ × Term) → Type 0
AllWritten [] = Unit {0}
AllWritten (q ∷ feats) = (is_written_term q.1 ≡ true) × AllWritten feats

feats_turned : (h : ℕ → ℕ) (vs : Binds) (feats : List (ℕ × Term)) → AllWritten feats → feats_under (turned_all h vs) feats ≡ turned_all h (feats_under vs feats)
feats_turned h vs [] w = refl
feats_turned h vs (q ∷ feats) w =
    ap (λ v. (q.0, v) ∷ feats_under (turned_all h vs) feats) (term_turned h vs q.1 w.0)
    ∙ ap (λ l. (q.0, turned h (term_value vs q.1)) ∷ l) (feats_turned h vs feats w.1)

pub under_turned : (h : ℕ → ℕ) (vs : Binds) (c : Category) → AllWritten c.feats → under (turned_all h vs) c ≡ turned_test h (under vs c)
under_turned h vs c w = ap (λ f. record { name = c.name; values = f }) (feats_turned h vs c.feats w)

abbrev pub PatternsWritten : List Pattern → Type 0
PatternsWritten [] = Unit {0}
PatternsWritten (p ∷ ps) = AllWritten p.cat.feats × PatternsWritten ps

pub tests_turned : (h : ℕ → ℕ) (vs : Binds) (ps : List Pattern) → PatternsWritten ps
    → tests_under (turned_all h vs) ps ≡ map (turned_test h) (tests_under vs ps)
tests_turned h vs [] w = refl
tests_turned h vs (p ∷ ps) w =
    ap (λ t. t ∷ tests_under (turned_all h vs) ps) (under_turned h vs p.cat w.0) ∙ ap (λ l. turned_test h (under vs p.cat) ∷ l) (tests_turned h vs ps w.1)

-- tests

pub any_turned : {X Y : Type 0} (p : Y → Bool) (q : X → Bool) (f : X → Y) (xs : List X) → ((x : X) → p (f x) ≡ q x) → list_any p (map f xs) ≡ list_any q xs
any_turned p q f [] h = refl
any_turned p q f (x ∷ xs) h = ap (λ b. b || list_any p (map f xs)) (h x) ∙ ap (λ b. q x || b) (any_turned p q f xs h)

all_turned : {X Y : Type 0} (p : Y → Bool) (q : X → Bool) (f : X → Y) (xs : List X) → ((x : X) → p (f x) ≡ q x) → list_all p (map f xs) ≡ list_all q xs
all_turned p q f [] h = refl
all_turned p q f (x ∷ xs) h = ap (λ b. b && list_all p (map f xs)) (h x) ∙ ap (λ b. q x && b) (all_turned p q f xs h)

prefix_turned : {X Y : Type 0} (p : Y → Bool) (q : X → Bool) (f : X → Y) (xs : List X) → ((x : X) → p (f x) ≡ q x) → prefix_len p (map f xs) ≡ prefix_len q xs
prefix_turned p q f [] h = refl
prefix_turned p q f (x ∷ xs) h = ap (λ b. cond b (1 + prefix_len p (map f xs)) 0) (h x) ∙ ap (λ n. cond (q x) (1 + n) 0) (prefix_turned p q f xs h)

position_turned : {X Y : Type 0} (p : Y → Bool) (q : X → Bool) (f : X → Y) (xs : List X) → ((x : X) → p (f x) ≡ q x) → position p (map f xs) ≡ position q xs
position_turned p q f xs h =
    let same = prefix_turned (λ y. not (p y)) (λ x. not (q x)) f xs (λ x. ap not (h x)) in
    ap (λ n. cond (nat_lt n (length (map f xs))) (Some n) None) same
    ∙ ap (λ m. cond (nat_lt (prefix_len (λ x. not (q x)) xs) m) (Some (prefix_len (λ x. not (q x)) xs)) None) (length_mapped f xs)

pub has_turned : (h : ℕ → ℕ) → IsTurn h → (vals : Binds) (p : ℕ × Value) → has_value (turned_all h vals) (turned_pair h p) ≡ has_value vals p
has_turned h t vals p = any_turned _ _ (turned_pair h) vals (λ q. ap (λ b. (q.0 == p.0) && b) (value_same h t q.1 p.1))

pub agrees_turned : (h : ℕ → ℕ) → IsTurn h → (r : Ground) (test : Test) → agrees (turned_ground h r) (turned_test h test) ≡ agrees r test
agrees_turned h t r test = ap (λ b. (r.name == test.name) && b) (all_turned _ _ (turned_pair h) test.values (λ p. has_turned h t r.vals p))

agreeing_turned : (h : ℕ → ℕ) → IsTurn h → (tests : List Test) (e : Entry) → is_agreeing (map (turned_test h) tests) (turned_entry h e) ≡ is_agreeing tests e
agreeing_turned h t tests entry.Opener = refl
agreeing_turned h t tests (entry.Weak r p) = any_turned _ _ (turned_test h) tests (λ x. agrees_turned h t r x)
agreeing_turned h t tests (entry.Strong r p) = any_turned _ _ (turned_test h) tests (λ x. agrees_turned h t r x)

pub none_turned : (h : ℕ → ℕ) → IsTurn h → (tests : List Test) (list : List Entry)
    → list_any (is_agreeing (map (turned_test h) tests)) (turned_list h list) ≡ list_any (is_agreeing tests) list
none_turned h t tests list = any_turned _ _ (turned_entry h) list (λ e. agreeing_turned h t tests e)

finding_at_turned : (h : ℕ → ℕ) → IsTurn h → (tests : Tests) (r : Ground) (p : ℕ)
    → finding_at (turned_tests h tests) (turned_ground h r) p ≡ option_map (turned_finding h) (finding_at tests r p)
finding_at_turned h t tests r p =
    ap (λ b. if b then None else option_map made (position (agrees (turned_ground h r)) (map (turned_test h) tests.positive)))
    (any_turned _ _ (turned_test h) tests.negative (λ x. agrees_turned h t r x))
    ∙ ap (λ o. if list_any (agrees r) tests.negative then None else option_map made o)
    (position_turned _ _ (turned_test h) tests.positive (λ x. agrees_turned h t r x))
    ∙ at (list_any (agrees r) tests.negative) (position (agrees r) tests.positive)
  where
    made : ℕ → Finding
    made k = record { pos = p; referent = turned_ground h r; pattern = k }

    at : (b : Bool) (o : Option ℕ) → (if b then None else option_map (λ k. record { pos = p; referent = turned_ground h r; pattern = k }) o)
        ≡ option_map (turned_finding h) (if b then None else option_map (λ k. record { pos = p; referent = r; pattern = k }) o)
    at true o = refl
    at false None = refl
    at false (Some k) = refl

finding_turned : (h : ℕ → ℕ) → IsTurn h → (tests : Tests) (e : Entry)
    → finding (turned_tests h tests) (turned_entry h e) ≡ option_map (turned_finding h) (finding tests e)
finding_turned h t tests entry.Opener = refl
finding_turned h t tests (entry.Weak r p) = finding_at_turned h t tests r p
finding_turned h t tests (entry.Strong r p) = finding_at_turned h t tests r p

findings_turned : (h : ℕ → ℕ) → IsTurn h → (tests : Tests) (list : List Entry)
    → filter_map (finding (turned_tests h tests)) (turned_list h list) ≡ map (turned_finding h) (filter_map (finding tests) list)
findings_turned h t tests [] = refl
findings_turned h t tests (e ∷ list) =
    ap (λ o. cons_option o (filter_map (finding (turned_tests h tests)) (turned_list h list))) (finding_turned h t tests e)
    ∙ ap (cons_option (option_map (turned_finding h) (finding tests e))) (findings_turned h t tests list) ∙ at (finding tests e)
  where
    at : (o : Option Finding) → cons_option (option_map (turned_finding h) o) (map (turned_finding h) (filter_map (finding tests) list))
        ≡ map (turned_finding h) (cons_option o (filter_map (finding tests) list))
    at None = refl
    at (Some f) = refl

last_turned : (h : ℕ → ℕ) (fs : List Finding) → last_of (map (turned_finding h) fs) ≡ option_map (turned_finding h) (last_of fs)
last_turned h [] = refl
last_turned h (f ∷ fs) = ap (λ o. Some (unwrap_or o (turned_finding h f))) (last_turned h fs) ∙ at (last_of fs)
  where
    at : (o : Option Finding) → Some (unwrap_or (option_map (turned_finding h) o) (turned_finding h f)) ≡ option_map (turned_finding h) (Some (unwrap_or o f))
    at None = refl
    at (Some g) = refl

pub closest_turned : (h : ℕ → ℕ) → IsTurn h → (tests : Tests) (list : List Entry)
    → closest_finding (turned_tests h tests) (turned_list h list) ≡ option_map (turned_finding h) (closest_finding tests list)
closest_turned h t tests list = ap last_of (findings_turned h t tests list) ∙ last_turned h (filter_map (finding tests) list)

-- lists

pub strong_turned : (h : ℕ → ℕ) (xs : List Entry) → strong_referents (turned_list h xs) ≡ turned_list h (strong_referents xs)
strong_turned h [] = refl
strong_turned h (entry.Opener ∷ xs) = strong_turned h xs
strong_turned h (entry.Weak r p ∷ xs) = strong_turned h xs
strong_turned h (entry.Strong r p ∷ xs) = ap (λ l. entry.Strong (turned_ground h r) p ∷ l) (strong_turned h xs)

pub closed_turned : (h : ℕ → ℕ) (xs : List Entry) → closed (turned_list h xs) ≡ turned_list h (closed xs)
closed_turned h [] = refl
closed_turned h (entry.Opener ∷ xs) = strong_turned h xs
closed_turned h (entry.Weak r p ∷ xs) = ap (λ l. entry.Weak (turned_ground h r) p ∷ l) (closed_turned h xs)
closed_turned h (entry.Strong r p ∷ xs) = ap (λ l. entry.Strong (turned_ground h r) p ∷ l) (closed_turned h xs)

pub introduced_turned : (h : ℕ → ℕ) (r : Ground) (p : ℕ) (strong : Bool) → introduced (turned_ground h r) p strong ≡ turned_entry h (introduced r p strong)
introduced_turned h r p true = refl
introduced_turned h r p false = refl

-- introduced referents

first_turned : (h : ℕ → ℕ) (own : Binds) → first_value (turned_all h own) ≡ turned h (first_value own)
first_turned h [] = refl
first_turned h (p ∷ own) = refl

-- a term that may be written
abbrev SomeWritten : Option Term → Type 0
SomeWritten None = Unit {0}
SomeWritten (Some t) = is_written_term t ≡ true

looked_written : (feats : List (ℕ × Term)) (f : ℕ) → AllWritten feats → SomeWritten (looked_up feats f)
looked_written [] f w = tt
looked_written (q ∷ feats) f w = at (looked_written feats f w.1) (q.0 == f)
  where
    at : SomeWritten (looked_up feats f) → (b : Bool) → SomeWritten (if b then Some q.1 else looked_up feats f)
    at rest true = w.0
    at rest false = rest

filled_value_turned : (h : ℕ → ℕ) (vs own : Binds) (o : Option Term) → SomeWritten o
    → filled_value (turned_all h vs) (turned_all h own) o ≡ turned h (filled_value vs own o)
filled_value_turned h vs own None w = first_turned h own
filled_value_turned h vs own (Some t) w = term_turned h vs t w

own_after_turned : (h : ℕ → ℕ) (own : Binds) (o : Option Term) → own_after (turned_all h own) o ≡ turned_all h (own_after own o)
own_after_turned h own None = drop-map (turned_pair h) 1 own
own_after_turned h own (Some t) = refl

filled_turned : (h : ℕ → ℕ) (vs : Binds) (feats : List (ℕ × Term)) (fs : List ℕ) (own : Binds) → AllWritten feats
    → filled (turned_all h vs) feats fs (turned_all h own) ≡ turned_all h (filled vs feats fs own)
filled_turned h vs feats [] own w = refl
filled_turned h vs feats (f ∷ fs) own w =
    ap (λ v. (f, v) ∷ filled (turned_all h vs) feats fs (own_after (turned_all h own) (looked_up feats f)))
    (filled_value_turned h vs own (looked_up feats f) (looked_written feats f w))
    ∙ ap (λ o. (f, turned h (filled_value vs own (looked_up feats f))) ∷ filled (turned_all h vs) feats fs o) (own_after_turned h own (looked_up feats f))
    ∙ ap (λ l. (f, turned h (filled_value vs own (looked_up feats f))) ∷ l) (filled_turned h vs feats fs (own_after own (looked_up feats f)) w)

pub rest_turned : (h : ℕ → ℕ) (feats : List (ℕ × Term)) (fs : List ℕ) (own : Binds)
    → own_rest feats fs (turned_all h own) ≡ turned_all h (own_rest feats fs own)
rest_turned h feats fs own = drop-map (turned_pair h) (length (unwritten feats fs)) own

pub referent_turned : (h : ℕ → ℕ) (g : GrammarParts) (vs : Binds) (c : Category) (own : Binds) → AllWritten c.feats
    → referent g (turned_all h vs) c (turned_all h own) ≡ turned_ground h (referent g vs c own)
referent_turned h g vs c own w = ap (λ l. record { name = c.name; vals = l }) (filled_turned h vs c.feats (features_of g c.name) own w)

-- heads and references

pub fits_turned : (h : ℕ → ℕ) → IsTurn h → (head asked : Test) → fits (turned_test h head) (turned_test h asked) ≡ fits head asked
fits_turned h t head asked =
    ap (λ b. (head.name == asked.name) && b)
    (all_turned _ _ (turned_pair h) head.values
    (λ p. all_turned _ _ (turned_pair h) asked.values (λ q. ap (λ b. not (p.0 == q.0) || b) (value_same h t p.1 q.1))))

pub takes_turned : (h : ℕ → ℕ) → IsTurn h → (vs : Binds) (r : Ground) (o : Option Pattern) → takes (turned_all h vs) (turned_ground h r) o ≡ takes vs r o
takes_turned h t vs r None = refl
takes_turned h t vs r (Some p) = each p.taken
  where
    each : (ts : List (ℕ × ℕ)) → list_all (λ x. has_value (turned_all h r.vals) (x.0, value_under (turned_all h vs) x.1)) ts
        ≡ list_all (λ x. has_value r.vals (x.0, value_under vs x.1)) ts
    each [] = refl
    each (x ∷ ts) =
        ap (λ b. b && list_all (λ y. has_value (turned_all h r.vals) (y.0, value_under (turned_all h vs) y.1)) ts)
        (ap (λ v. has_value (turned_all h r.vals) (x.0, v)) (value_turned h vs x.1) ∙ has_turned h t r.vals (x.0, value_under vs x.1))
        ∙ ap (λ b. has_value r.vals (x.0, value_under vs x.1) && b) (each ts)

pub found_turned : (h : ℕ → ℕ) → IsTurn h → (vs : Binds) (positive : List Pattern) (pos : ℕ) (o : Option Finding)
    → is_found (turned_all h vs) positive pos (option_map (turned_finding h) o) ≡ is_found vs positive pos o
found_turned h t vs positive pos None = refl
found_turned h t vs positive pos (Some f) = ap (λ b. (f.pos == pos) && b) (takes_turned h t vs f.referent (slice_get positive f.pattern))

pub reference_turned : (h : ℕ → ℕ) (vs : Binds) (positive negative : List Pattern) → PatternsWritten positive → PatternsWritten negative
    → reference_tests (turned_all h vs) positive negative ≡ turned_tests h (reference_tests vs positive negative)
reference_turned h vs positive negative w v =
    ap (λ l. record { positive = l; negative = tests_under (turned_all h vs) negative }) (tests_turned h vs positive w)
    ∙ ap (λ l. record { positive = map (turned_test h) (tests_under vs positive); negative = l }) (tests_turned h vs negative v)

-- settings

abbrev pub turned_readings : (ℕ → ℕ) → List (List Ground) → List (List Ground)
turned_readings h rs = map (map (turned_ground h)) rs

-- The settings differ by the numbers of words alone, at the places before one: there the same terminals stand and the
-- readings are the same but for these numbers. There are as many tokens, and a word has a form among them where the other has.
pub record Alike (n : ℕ) (h : ℕ → ℕ) (s other : Setting) : Type 0 where
  pub grammar : other.grammar ≡ s.grammar
  pub count : length other.tokens ≡ length s.tokens
  pub terminals : (t place : ℕ) → place < n → matches_terminal other t place ≡ matches_terminal s t place
  pub readings : (place : ℕ) → place < n → slice_get other.readings place ≡ option_map (map (turned_ground h)) (slice_get s.readings place)
  pub words : (v : Value) → has_word other (turned h v) ≡ has_word s v

pub preterminal_turned : (n : ℕ) (h : ℕ → ℕ) → IsTurn h → (s other : Setting) → Alike n h s other → (asked : Test) (place : ℕ) → place < n
    → matches_preterminal other (turned_test h asked) place ≡ matches_preterminal s asked place
preterminal_turned n h t s other a asked place lt =
    ap (λ o. option_map_or (λ readings. list_any (λ r. agrees r (turned_test h asked)) readings) o false) (a.readings place lt)
    ∙ at (slice_get s.readings place)
  where
    at : (o : Option (List Ground)) → option_map_or (λ readings. list_any (λ r. agrees r (turned_test h asked)) readings) (option_map (map (turned_ground h)) o)
        false ≡ option_map_or (λ readings. list_any (λ r. agrees r asked) readings) o false
    at None = refl
    at (Some readings) = any_turned _ _ (turned_ground h) readings (λ r. agrees_turned h t r asked)

is_value_turned : (n : ℕ) (h : ℕ → ℕ) → IsTurn h → (s other : Setting) → Alike n h s other → (d : Declared) (v : Value)
    → is_value other d (turned h v) ≡ is_value s d v
is_value_turned n h t s other a declared.Undeclared v = refl
is_value_turned n h t s other a declared.Words (Atom x) = refl
is_value_turned n h t s other a declared.Words (Word w) =
    ap (λ b. b || has_word other (Word (record { 0 = h w.0 }))) (t.none w.0) ∙ ap (λ b. (w.0 == 0) || b) (a.words (Word w))
is_value_turned n h t s other a declared.Words (Pos p) = refl
is_value_turned n h t s other a declared.Positions (Atom x) = refl
is_value_turned n h t s other a declared.Positions (Word w) = refl
is_value_turned n h t s other a declared.Positions (Pos p) = ap (nat_le p) a.count
is_value_turned n h t s other a (declared.Atoms atoms) (Atom x) = refl
is_value_turned n h t s other a (declared.Atoms atoms) (Word w) = refl
is_value_turned n h t s other a (declared.Atoms atoms) (Pos p) = refl

fits_feature_turned : (n : ℕ) (h : ℕ → ℕ) → IsTurn h → (s other : Setting) → Alike n h s other → (f : ℕ) (v : Value)
    → fits_feature other f (turned h v) ≡ fits_feature s f v
fits_feature_turned n h t s other a f v =
    ap (λ g. is_value other (values_of g f) (turned h v)) a.grammar ∙ is_value_turned n h t s other a (values_of s.grammar f) v

term_fits_turned : (n : ℕ) (h : ℕ → ℕ) → IsTurn h → (s other : Setting) → Alike n h s other → (vs : Binds) (q : ℕ × Term)
    → term_fits other (turned_all h vs) q ≡ term_fits s vs q
term_fits_turned n h t s other a vs (f, Val v) = refl
term_fits_turned n h t s other a vs (f, Var x) = ap (fits_feature other f) (value_turned h vs x) ∙ fits_feature_turned n h t s other a f (value_under vs x)

terms_fit_turned : (n : ℕ) (h : ℕ → ℕ) → IsTurn h → (s other : Setting) → Alike n h s other → (vs : Binds) (qs : List (ℕ × Term))
    → list_all (term_fits other (turned_all h vs)) qs ≡ list_all (term_fits s vs) qs
terms_fit_turned n h t s other a vs [] = refl
terms_fit_turned n h t s other a vs (q ∷ qs) =
    ap (λ b. b && list_all (term_fits other (turned_all h vs)) qs) (term_fits_turned n h t s other a vs q)
    ∙ ap (λ b. term_fits s vs q && b) (terms_fit_turned n h t s other a vs qs)

positions_turned : (n : ℕ) (h : ℕ → ℕ) → IsTurn h → (s other : Setting) → Alike n h s other → (vs : Binds) (xs : List ℕ)
    → list_all (λ x. is_value other declared.Positions (value_under (turned_all h vs) x)) xs
    ≡ list_all (λ x. is_value s declared.Positions (value_under vs x)) xs
positions_turned n h t s other a vs [] = refl
positions_turned n h t s other a vs (x ∷ xs) =
    ap (λ b. b && list_all (λ y. is_value other declared.Positions (value_under (turned_all h vs) y)) xs)
    (ap (is_value other declared.Positions) (value_turned h vs x) ∙ is_value_turned n h t s other a declared.Positions (value_under vs x))
    ∙ ap (λ b. is_value s declared.Positions (value_under vs x) && b) (positions_turned n h t s other a vs xs)

own_fit_turned : (n : ℕ) (h : ℕ → ℕ) → IsTurn h → (s other : Setting) → Alike n h s other → (fs : List ℕ) (own : Binds)
    → own_fit other fs (turned_all h own) ≡ own_fit s fs own
own_fit_turned n h t s other a [] own = refl
own_fit_turned n h t s other a (f ∷ fs) [] = refl
own_fit_turned n h t s other a (f ∷ fs) (p ∷ own) =
    ap (λ b. b && own_fit other fs (turned_all h own)) (fits_feature_turned n h t s other a f p.1)
    ∙ ap (λ b. fits_feature s f p.1 && b) (own_fit_turned n h t s other a fs own)

numbers_turned : (h : ℕ → ℕ) (vs : Binds) → map (λ p. p.0) (turned_all h vs) ≡ map (λ p. p.0) vs
numbers_turned h [] = refl
numbers_turned h (p ∷ vs) = ap (λ l. p.0 ∷ l) (numbers_turned h vs)

pub own_values_turned : (h : ℕ → ℕ) (rule : Rule) (vs : Binds) → own_values rule (turned_all h vs) ≡ turned_all h (own_values rule vs)
own_values_turned h rule vs = drop-map (turned_pair h) (length (written_variables rule)) vs

pub instance_turned : (n : ℕ) (h : ℕ → ℕ) → IsTurn h → (s other : Setting) → Alike n h s other → (rule : Rule) (vs : Binds)
    → is_instance other rule (turned_all h vs) ≡ is_instance s rule vs
unfolding is_instance
instance_turned n h t s other a rule vs =
    let one : same_numbers (map (λ p. p.0) (turned_all h vs)) (variables_of other.grammar rule)
    ≡ same_numbers (map (λ p. p.0) vs) (variables_of s.grammar rule) =
    ap (λ l. same_numbers l (variables_of other.grammar rule)) (numbers_turned h vs)
    ∙ ap (λ g. same_numbers (map (λ p. p.0) vs) (variables_of g rule)) a.grammar in
    let two = terms_fit_turned n h t s other a vs (rule_features rule) in
    let three = positions_turned n h t s other a vs (flat_map positions rule.body) in
    let four : own_fit other (rule_own_features other.grammar rule) (own_values rule (turned_all h vs))
    ≡ own_fit s (rule_own_features s.grammar rule) (own_values rule vs) =
    ap (λ g. own_fit other (rule_own_features g rule) (own_values rule (turned_all h vs))) a.grammar
    ∙ ap (own_fit other (rule_own_features s.grammar rule)) (own_values_turned h rule vs)
    ∙ own_fit_turned n h t s other a (rule_own_features s.grammar rule) (own_values rule vs) in
    cc

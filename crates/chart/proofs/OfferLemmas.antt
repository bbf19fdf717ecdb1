-- What may follow is what is asked for, by two tables.
use Rattle.std.proofs.Common.{◌≡◌, ℕ, suc, zero, ◌+◌, ◌<◌, ◌≤◌, List, [], ◌∷◌, ◌++◌, Bool, true, false, ◌&&◌, ◌||◌, map, length, length-append, Some, refl, sym, ap, ◌∙◌, subst, arith}
use Rattle.std.specs.Prelude.{if◌then◌else◌, ◌==◌, slice_get, slice_index_or}
use Rattle.std.specs.Option.{option_map_or}
use Rattle.std.specs.List.{list_any}
use Rattle.std.specs.Str.{bytes_eq}
use Rattle.std.proofs.lemmas.List.{map-append}
use Rattle.std.proofs.lemmas.Option.{same_Some}
use Rattle.codeco_terms.specs.declared.values.Value.{Value}
use Rattle.codeco_terms.specs.declared.values.Value.TheVariants.{Atom, Word as TheWord}
use Rattle.codeco_terms.specs.declared.categories.Ground.{Ground}
use Rattle.codeco_terms.specs.GrammarParts.{GrammarParts}
use Rattle.codeco_checked.specs.Sound.{IsSound}
use Rattle.wiki_base.specs.declared.numbers.WordId.{WordId}
use Rattle.wiki_base.proofs.ListLaws.{slice_get_mapped, length_mapped}
use Rattle.derivation_trees.proofs.ValueLemmas.{same_value_is}
use Rattle.scopes.specs.Resolution.{has_value}
use Rattle.lexicon.specs.declared.kinds.Kind.{Kind}
use Rattle.lexicon.specs.declared.kinds.Kind.TheVariants as kind
use Rattle.lexicon.specs.declared.words.Word.{Word}
use Rattle.lexicon.specs.Words.{Listed, IsLexicon, has_form}
use Rattle.lexicon.specs.Readings.{begins_with_vowel, reading, readings_of, readings_of_word}
use Rattle.derivation_trees.specs.Settings.{Setting, matches_terminal}
use Rattle.derivation_trees.specs.Derives.{text_category}
use Rattle.derivation_trees.specs.Cutting.{is_terminal}
use Rattle.derivation_trees.specs.Partial.{CutNode, IsPartialDerivation, IsBeginning}
use Rattle.derivation_trees.specs.Sentences.{setting_of}
use Rattle.chart_table.specs.declared.asks.Ask.{Ask}
use Rattle.chart_table.specs.declared.asks.Ask.TheVariants as ask
use Rattle.chart_table.specs.Branches.{OneOf}
use Rattle.chart_table.specs.Asks.{AskLeads}
use Rattle.chart.proofs.Following.{TokenMeets}
use Rattle.chart.specs.Offers.{with_last, Told, terminal_asks, some_follows, is_used, class_of, class_readings}
use Rattle.chart.proofs.SwapLemmas.{Asked, HasWord, BringsNone, swapped, swapped_first, asked_new, asked_old}
use Rattle.chart.proofs.TurnedLemmas.{turned_ground}
use Rattle.chart.proofs.LastToken.{last_token}
use Rattle.chart.proofs.ReadingLemmas.{form_among, form_reads, from_at, from_is, word_in_form, reading_turned, unused_lacks, form_no_terminal, terminal_reads}

-- the readings of tokens
abbrev pub reads : Listed → List (List ℕ) → List (List Ground)
reads l tokens = map (readings_of l.live) tokens

-- the tokens with a text at their end
abbrev pub with_text : GrammarParts → Listed → List (List ℕ) → List ℕ → Setting
with_text g l tokens text = with_last g tokens (reads l tokens) text (readings_of l.live text)

-- it is asked for, where the tokens with a text at their end stand before this text
abbrev pub AskedOf : GrammarParts → Listed → List (List ℕ) → List ℕ → Ask → Type 0
AskedOf g l tokens text asks = Asked g tokens (reads l tokens) text (readings_of l.live text) asks

-- a text may follow where it is asked for

reads_long : (l : Listed) (tokens : List (List ℕ)) → length (reads l tokens) ≡ length tokens
reads_long l tokens = length_mapped (readings_of l.live) tokens

text_setting : (g : GrammarParts) (l : Listed) (tokens : List (List ℕ)) (text : List ℕ) → setting_of g l (tokens ++ text ∷ []) ≡ with_text g l tokens text
text_setting g l tokens text =
    ap (λ r. record { grammar = g; tokens = tokens ++ text ∷ []; readings = r }) (map-append (readings_of l.live) tokens (text ∷ []))

abbrev Begins : Setting → Type 0
Begins s = (cut : CutNode) × IsPartialDerivation s cut

-- some ask is met by the text and is asked for
abbrev pub SomeAsked : GrammarParts → Listed → List (List ℕ) → List ℕ → Type 0
SomeAsked g l tokens text = (asks : Ask) × TokenMeets (with_text g l tokens text) (length tokens) asks × AskedOf g l tokens text asks

asked_begins : (g : GrammarParts) (l : Listed) (tokens : List (List ℕ)) (text : List ℕ) → SomeAsked g l tokens text → IsBeginning g l (tokens ++ text ∷ [])
asked_begins g l tokens text f =
    let le : 0 ≤ length tokens = omega arith in
    let cut = (last_token (with_text g l tokens text) (length tokens) text_category (record { place = 0; list = [] }) le).0 f in
    subst Begins (sym (text_setting g l tokens text)) (cut.0, cut.1 ∙ ap Some (sym (length-append tokens (text ∷ []))))

begins_asked : (g : GrammarParts) (l : Listed) (tokens : List (List ℕ)) (text : List ℕ) → IsBeginning g l (tokens ++ text ∷ []) → SomeAsked g l tokens text
begins_asked g l tokens text b =
    let le : 0 ≤ length tokens = omega arith in
    let cut = subst Begins (text_setting g l tokens text) b in
    (last_token (with_text g l tokens text) (length tokens) text_category (record { place = 0; list = [] }) le).1
    (cut.0, cut.1 ∙ ap Some (length-append tokens (text ∷ [])))

slice_last : {X : Type 0} (xs : List X) (x : X) (n : ℕ) → length xs ≡ n → slice_get (xs ++ x ∷ []) n ≡ Some x
slice_last [] x zero h = refl
slice_last [] x (suc n) h = absurd (omega arith)
slice_last (y ∷ ys) x zero h = absurd (omega arith)
slice_last (y ∷ ys) x (suc n) h = slice_last ys x n (omega arith)

-- the text is the terminal with the number
terminal_is : (g : GrammarParts) (l : Listed) (tokens : List (List ℕ)) (text : List ℕ) (k : ℕ)
    → matches_terminal (with_text g l tokens text) k (length tokens) ≡ option_map_or (bytes_eq text) (slice_get g.terminals k) false
terminal_is g l tokens text k =
    ap (λ o. option_map_or (λ token. option_map_or (bytes_eq token) (slice_get g.terminals k) false) o false) (slice_last tokens text (length tokens) refl)

reading_is : (g : GrammarParts) (l : Listed) (tokens : List (List ℕ)) (text : List ℕ) (r : Ground)
    → TokenMeets (with_text g l tokens text) (length tokens) (ask.Reading r) → OneOf (readings_of l.live text) r
reading_is g l tokens text r m =
    let same : readings_of l.live text ≡ m.0 =
    same_Some (readings_of l.live text) m.0 (sym (slice_last (reads l tokens) (readings_of l.live text) (length tokens) (reads_long l tokens)) ∙ m.1) in
    subst (λ rs. OneOf rs r) (sym same) m.2

reading_met : (g : GrammarParts) (l : Listed) (tokens : List (List ℕ)) (text : List ℕ) (r : Ground) → OneOf (readings_of l.live text) r
    → TokenMeets (with_text g l tokens text) (length tokens) (ask.Reading r)
reading_met g l tokens text r o =
    (readings_of l.live text, slice_last (reads l tokens) (readings_of l.live text) (length tokens) (reads_long l tokens), o)

-- what is told of terminals

abbrev pub AsksAt : Setting → ℕ → Ask → Type 0
AsksAt s n asks = AskLeads s n asks text_category (record { place = 0; list = [] })

follows_forth : (s : Setting) (n : ℕ) (text : List ℕ) (ts : List (List ℕ)) (k : ℕ) (bs : List Bool) → Told s n (terminal_asks k ts) bs
    → some_follows text ts bs ≡ true → (j : ℕ) × (option_map_or (bytes_eq text) (slice_get ts j) false ≡ true) × AsksAt s n (ask.Terminal (k + j))
follows_forth s n text [] k bs told h = absurd (cc)
follows_forth s n text (t ∷ ts) k [] told h = absurd told
follows_forth s n text (t ∷ ts) k (b ∷ bs) told h = at (bytes_eq text t) b refl refl (λ m. later (follows_forth s n text ts (k + 1) bs told.1 m)) h
  where
    later : (j : ℕ) × (option_map_or (bytes_eq text) (slice_get ts j) false ≡ true) × AsksAt s n (ask.Terminal (k + 1 + j))
        → (j : ℕ) × (option_map_or (bytes_eq text) (slice_get (t ∷ ts) j) false ≡ true) × AsksAt s n (ask.Terminal (k + j))
    later r =
        let next : k + 1 + r.0 ≡ k + suc r.0 = omega arith in
        (suc r.0, r.1, subst (λ x. AsksAt s n (ask.Terminal x)) next r.2)

    at : (e c : Bool) → bytes_eq text t ≡ e → b ≡ c
        → (some_follows text ts bs ≡ true → (j : ℕ) × (option_map_or (bytes_eq text) (slice_get (t ∷ ts) j) false ≡ true) × AsksAt s n (ask.Terminal (k + j)))
        → ((e && c) || some_follows text ts bs) ≡ true
        → (j : ℕ) × (option_map_or (bytes_eq text) (slice_get (t ∷ ts) j) false ≡ true) × AsksAt s n (ask.Terminal (k + j))
    at true true p q rest m =
        let none_more : k ≡ k + 0 = omega arith in
        (0, p, subst (λ x. AsksAt s n (ask.Terminal x)) none_more (told.0.0 q))
    at true false p q rest m = rest m
    at false c p q rest m = rest m

follows_back : (s : Setting) (n : ℕ) (text : List ℕ) (ts : List (List ℕ)) (k : ℕ) (bs : List Bool) (j : ℕ) → Told s n (terminal_asks k ts) bs
    → option_map_or (bytes_eq text) (slice_get ts j) false ≡ true → AsksAt s n (ask.Terminal (k + j)) → some_follows text ts bs ≡ true
follows_back s n text [] k bs j told h asked = absurd (cc)
follows_back s n text (t ∷ ts) k [] j told h asked = absurd told
follows_back s n text (t ∷ ts) k (b ∷ bs) zero told h asked =
    let none_more : k + 0 ≡ k = omega arith in
    let yes : b ≡ true = told.0.1 (subst (λ x. AsksAt s n (ask.Terminal x)) none_more asked) in
    ap (λ e. (e && b) || some_follows text ts bs) h ∙ ap (λ c. c || some_follows text ts bs) yes
follows_back s n text (t ∷ ts) k (b ∷ bs) (suc j) told h asked =
    let next : k + suc j ≡ k + 1 + j = omega arith in
    at (bytes_eq text t && b) (follows_back s n text ts (k + 1) bs j told.1 h (subst (λ x. AsksAt s n (ask.Terminal x)) next asked))
  where
    at : (c : Bool) → some_follows text ts bs ≡ true → (c || some_follows text ts bs) ≡ true
    at true m = refl
    at false m = m

-- a terminal may follow exactly where it is told of one of the terminals that it is
pub terminal_law : (g : GrammarParts) (l : Listed) (tokens : List (List ℕ)) (text token : List ℕ) (bs : List Bool) → IsSound g → IsLexicon l
    → is_terminal l.terminals text ≡ true → Told (with_last g tokens (reads l tokens) token []) (length tokens) (terminal_asks 0 g.terminals) bs
    → (some_follows text g.terminals bs ≡ true → IsBeginning g l (tokens ++ text ∷ []))
    × (IsBeginning g l (tokens ++ text ∷ []) → some_follows text g.terminals bs ≡ true)
terminal_law g l tokens text token bs sound lexicon spelled told = (
  λ h.
      let r = follows_forth (with_last g tokens (reads l tokens) token []) (length tokens) text g.terminals 0 bs told h in
      let none_less : 0 + r.0 ≡ r.0 = omega arith in
      asked_begins g l tokens text (
        ask.Terminal r.0,
        terminal_is g l tokens text r.0 ∙ r.1,
        (both (ask.Terminal r.0)).1 (subst (λ x. AsksAt (with_last g tokens (reads l tokens) token []) (length tokens) (ask.Terminal x)) none_less r.2),
      ),
  λ b. by (begins_asked g l tokens text b),
)
  where
    none : readings_of l.live text ≡ []
    none = terminal_reads l lexicon text spelled

    both : (asks : Ask) → (AskedOf g l tokens text asks → Asked g tokens (reads l tokens) token [] asks)
        × (Asked g tokens (reads l tokens) token [] asks → AskedOf g l tokens text asks)
    both asks =
        asked_old g tokens (reads l tokens) text token (readings_of l.live text) sound (reads_long l tokens)
        (λ v h. absurd (nothing v (sym (ap (λ rs. list_any (λ (r : Ground). has_value r.vals (3, v)) rs) none) ∙ h))) asks
      where
        nothing : (v : Value) → false ≡ true → ⊥
        nothing v h = absurd (cc)

    by : SomeAsked g l tokens text → some_follows text g.terminals bs ≡ true
    by (ask.Any, m, a) = absurd m
    by (ask.Terminal k, m, a) =
        let none_more : k ≡ 0 + k = omega arith in
        follows_back (with_last g tokens (reads l tokens) token []) (length tokens) text g.terminals 0 bs k told (sym (terminal_is g l tokens text k) ∙ m)
        (subst (λ x. AsksAt (with_last g tokens (reads l tokens) token []) (length tokens) (ask.Terminal x)) none_more ((both (ask.Terminal k)).0 a))
    by (ask.Reading r, m, a) = absurd (subst (λ rs. OneOf rs r) none (reading_is g l tokens text r m))

-- the forms of a word

pub one_terminal : (ts : List (List ℕ)) (k : ℕ) (text : List ℕ) → option_map_or (bytes_eq text) (slice_get ts k) false ≡ true → is_terminal ts text ≡ true
one_terminal [] k text h = absurd (cc)
one_terminal (t ∷ ts) zero text h = ap (λ b. b || is_terminal ts text) h
one_terminal (t ∷ ts) (suc k) text h = at (bytes_eq text t) (one_terminal ts k text h)
  where
    at : (b : Bool) → is_terminal ts text ≡ true → (b || is_terminal ts text) ≡ true
    at true m = refl
    at false m = m

-- a form of a word may follow exactly where some reading that it has as a form of the word is asked for
form_law : (g : GrammarParts) (l : Listed) (tokens : List (List ℕ)) (place : ℕ) (word : Word) (text : List ℕ) → IsLexicon l → g.terminals ≡ l.terminals
    → slice_get l.live place ≡ Some word → has_form text word ≡ true → IsBeginning g l (tokens ++ text ∷ [])
    → (at : ℕ) × (slice_get word.forms.texts at ≡ Some text) × AskedOf g l tokens text (ask.Reading (reading word.forms.kind word.id at text))
form_law g l tokens place word text lexicon same lives has b = by (begins_asked g l tokens text b)
  where
    by : SomeAsked g l tokens text → (at : ℕ) × (slice_get word.forms.texts at ≡ Some text)
        × AskedOf g l tokens text (ask.Reading (reading word.forms.kind word.id at text))
    by (ask.Any, m, a) = absurd m
    by (ask.Terminal k, m, a) =
        let one = one_terminal g.terminals k text (sym (terminal_is g l tokens text k) ∙ m) in
        let z : true ≡ false = sym one ∙ ap (λ ts. is_terminal ts text) same ∙ form_no_terminal l lexicon place word text lives has in
        absurd (cc)
    by (ask.Reading r, m, a) =
        let o = subst (λ rs. OneOf rs r) (form_reads l lexicon place word text lives has) (reading_is g l tokens text r m) in
        let h = from_is word.forms.kind word.id text 0 word.forms.texts r o in
        let none_less : h.0 ≡ 0 + h.0 = omega arith in
        (h.0, h.1, subst (λ x. AskedOf g l tokens text (ask.Reading x)) (sym (ap (λ p. reading word.forms.kind word.id p text) none_less ∙ h.2)) a)

form_back : (g : GrammarParts) (l : Listed) (tokens : List (List ℕ)) (place : ℕ) (word : Word) (at : ℕ) (text : List ℕ) → IsLexicon l
    → slice_get l.live place ≡ Some word → slice_get word.forms.texts at ≡ Some text
    → AskedOf g l tokens text (ask.Reading (reading word.forms.kind word.id at text)) → IsBeginning g l (tokens ++ text ∷ [])
form_back g l tokens place word at text lexicon lives is a =
    let has = form_among word.forms.texts at text is in
    let none_less : 0 + at ≡ at = omega arith in
    let o = subst (λ p. OneOf (readings_of_word text word) (reading word.forms.kind word.id p text)) none_less
    (from_at word.forms.kind word.id text 0 word.forms.texts at is) in
    let r = reading word.forms.kind word.id at text in
    asked_begins g l tokens text (
      ask.Reading r,
      reading_met g l tokens text r (subst (λ rs. OneOf rs r) (sym (form_reads l lexicon place word text lives has)) o),
      a,
    )

has_word_of : (l : Listed) → IsLexicon l → (place : ℕ) (word : Word) (text : List ℕ) → slice_get l.live place ≡ Some word → has_form text word ≡ true
    → HasWord (readings_of l.live text) word.id.0
has_word_of l lexicon place word text lives has =
    subst (λ rs. HasWord rs word.id.0) (sym (form_reads l lexicon place word text lives has)) (word_in_form word text has)

-- a word that has a form among the tokens

used_brings : (l : Listed) (tokens : List (List ℕ)) (q : List Ground) (id : WordId) → HasWord q id.0 → is_used (reads l tokens) id ≡ true
    → BringsNone (reads l tokens) q
used_brings l tokens q id has used v h =
    let same : TheWord id ≡ v = same_value_is (TheWord id) v (sym (has v) ∙ h) in
    subst (λ x. list_any (λ one. list_any (λ (r : Ground). has_value r.vals (3, x)) one) (reads l tokens) ≡ true) same used

-- what is asked for by the table of a last token without readings
pub used_law : (g : GrammarParts) (l : Listed) (tokens : List (List ℕ)) (place : ℕ) (word : Word) (text token : List ℕ) → IsSound g → IsLexicon l
    → slice_get l.live place ≡ Some word → has_form text word ≡ true → is_used (reads l tokens) word.id ≡ true → (asks : Ask)
    → (AskedOf g l tokens text asks → Asked g tokens (reads l tokens) token [] asks)
    × (Asked g tokens (reads l tokens) token [] asks → AskedOf g l tokens text asks)
used_law g l tokens place word text token sound lexicon lives has used asks =
    asked_old g tokens (reads l tokens) text token (readings_of l.live text) sound (reads_long l tokens)
    (used_brings l tokens (readings_of l.live text) word.id (has_word_of l lexicon place word text lives has) used) asks

-- words without a form among the tokens

above_none : (n : ℕ) → 0 < n → n ≡ 0 → ⊥
above_none n h e = absurd (omega arith)

-- what is asked for by the table of a last token that is a form of another such word
pub new_law : (g : GrammarParts) (l : Listed) (tokens : List (List ℕ)) (place first_place : ℕ) (word first : Word) (text form token : List ℕ) (at : ℕ)
    → IsSound g → IsLexicon l → slice_get l.live place ≡ Some word → slice_get l.live first_place ≡ Some first → has_form text word ≡ true
    → has_form form first ≡ true → is_used (reads l tokens) word.id ≡ false → is_used (reads l tokens) first.id ≡ false → 0 < word.id.0 → 0 < first.id.0
    → (AskedOf g l tokens text (ask.Reading (reading word.forms.kind word.id at text))
    → Asked g tokens (reads l tokens) token (readings_of l.live form) (ask.Reading (reading word.forms.kind first.id at text)))
    × (Asked g tokens (reads l tokens) token (readings_of l.live form) (ask.Reading (reading word.forms.kind first.id at text))
    → AskedOf g l tokens text (ask.Reading (reading word.forms.kind word.id at text)))
new_law g l tokens place first_place word first text form token at sound lexicon lives first_lives has first_has new first_new above first_above =
    let a = word.id.0 in
    let b = first.id.0 in
    let both = asked_new g tokens (reads l tokens) text token (readings_of l.live text) (readings_of l.live form) a b sound (reads_long l tokens)
    (above_none a above) (above_none b first_above) (unused_lacks l.live tokens word.id new) (unused_lacks l.live tokens first.id first_new)
    (has_word_of l lexicon place word text lives has) (has_word_of l lexicon first_place first form first_lives first_has)
    (reading word.forms.kind word.id at text) in
    let same : turned_ground (swapped a b) (reading word.forms.kind word.id at text) ≡ reading word.forms.kind first.id at text =
    reading_turned (swapped a b) word.forms.kind word.id at text ∙ ap (λ n. reading word.forms.kind (record { 0 = n }) at text) (swapped_first a b) in (
      λ h. subst (λ x. Asked g tokens (reads l tokens) token (readings_of l.live form) (ask.Reading x)) same (both.0 h),
      λ h. both.1 (subst (λ x. Asked g tokens (reads l tokens) token (readings_of l.live form) (ask.Reading x)) (sym same) h),
    )

-- classes

-- a form reads as its class does
pub class_law : (k : Kind) (id : WordId) (place : ℕ) (form : List ℕ) → slice_get (class_readings id) (class_of k place form) ≡ Some (reading k id place form)
class_law kind.Name id place form = refl
class_law kind.Noun id place form = at (place == 0) (begins_with_vowel form)
  where
    at : (b c : Bool) → slice_get (class_readings id) (if b then (if c then 1 else 2) else (if c then 3 else 4))
        ≡ Some (record { name = 1; vals = (0, if b then Atom 0 else Atom 1) ∷ (1, if c then Atom 2 else Atom 3) ∷ (3, TheWord id) ∷ [] })
    at true true = refl
    at true false = refl
    at false true = refl
    at false false = refl
class_law kind.Of id place form = at (begins_with_vowel form)
  where
    at : (c : Bool) → slice_get (class_readings id) (if c then 5 else 6)
        ≡ Some (record { name = 2; vals = (1, if c then Atom 2 else Atom 3) ∷ (3, TheWord id) ∷ [] })
    at true = refl
    at false = refl
class_law kind.Verb id place form = at (place == 0) (place == 1)
  where
    at : (b c : Bool) → slice_get (class_readings id) (if b then 7 else (if c then 8 else 9))
        ≡ Some (record { name = 3; vals = (2, if b then Atom 4 else (if c then Atom 5 else Atom 6)) ∷ (3, TheWord id) ∷ [] })
    at true c = refl
    at false true = refl
    at false false = refl
class_law kind.Adjective id place form = refl

-- what is told of the ask at a place
pub told_at : (s : Setting) (n : ℕ) (asks : List Ask) (bs : List Bool) (k : ℕ) (a : Ask) → Told s n asks bs → slice_get asks k ≡ Some a
    → (slice_index_or bs k false ≡ true → AsksAt s n a) × (AsksAt s n a → slice_index_or bs k false ≡ true)
told_at s n [] bs k a told h = absurd (cc)
told_at s n (x ∷ xs) [] k a told h = absurd told
told_at s n (x ∷ xs) (b ∷ bs) zero a told h = subst (λ y. (b ≡ true → AsksAt s n y) × (AsksAt s n y → b ≡ true)) (same_Some x a h) (told.0.0, told.0.1)
told_at s n (x ∷ xs) (b ∷ bs) (suc k) a told h = told_at s n xs bs k a told.1 h

pub class_told : (s : Setting) (n : ℕ) (bs : List Bool) (k : Kind) (id : WordId) (place : ℕ) (form : List ℕ) → Told s n (map ask.Reading (class_readings id)) bs
    → (slice_index_or bs (class_of k place form) false ≡ true → AsksAt s n (ask.Reading (reading k id place form)))
    × (AsksAt s n (ask.Reading (reading k id place form)) → slice_index_or bs (class_of k place form) false ≡ true)
class_told s n bs k id place form told =
    told_at s n (map ask.Reading (class_readings id)) bs (class_of k place form) (ask.Reading (reading k id place form)) told
    (slice_get_mapped ask.Reading (class_readings id) (class_of k place form) (reading k id place form) (class_law k id place form))

pub used_form_follows : (g : GrammarParts) (l : Listed) (tokens : List (List ℕ)) (place : ℕ) (word : Word) (at : ℕ) (text token : List ℕ) → IsSound g
    → IsLexicon l → slice_get l.live place ≡ Some word → slice_get word.forms.texts at ≡ Some text → is_used (reads l tokens) word.id ≡ true
    → Asked g tokens (reads l tokens) token [] (ask.Reading (reading word.forms.kind word.id at text)) → IsBeginning g l (tokens ++ text ∷ [])
used_form_follows g l tokens place word at text token sound lexicon lives is used a =
    form_back g l tokens place word at text lexicon lives is
    ((used_law g l tokens place word text token sound lexicon lives (form_among word.forms.texts at text is) used
    (ask.Reading (reading word.forms.kind word.id at text))).1 a)

pub used_form_asked : (g : GrammarParts) (l : Listed) (tokens : List (List ℕ)) (place : ℕ) (word : Word) (text token : List ℕ) → IsSound g → IsLexicon l
    → g.terminals ≡ l.terminals → slice_get l.live place ≡ Some word → has_form text word ≡ true → is_used (reads l tokens) word.id ≡ true
    → IsBeginning g l (tokens ++ text ∷ [])
    → (at : ℕ) × (slice_get word.forms.texts at ≡ Some text) × Asked g tokens (reads l tokens) token [] (ask.Reading (reading word.forms.kind word.id at text))
used_form_asked g l tokens place word text token sound lexicon same lives has used b =
    let r = form_law g l tokens place word text lexicon same lives has b in
    (r.0, r.1, (used_law g l tokens place word text token sound lexicon lives has used (ask.Reading (reading word.forms.kind word.id r.0 text))).0 r.2)

-- a last token that reads as the first of the words without a form among the tokens
pub record IsFirst (l : Listed) (tokens : List (List ℕ)) (form : List ℕ) (first : Word) : Type 0 where
  pub place : ℕ
  pub lives : slice_get l.live place ≡ Some first
  pub form_is : slice_get first.forms.texts 0 ≡ Some form
  pub new : is_used (reads l tokens) first.id ≡ false
  pub above : 0 < first.id.0

pub new_form_follows : (g : GrammarParts) (l : Listed) (tokens : List (List ℕ)) (place : ℕ) (word first : Word) (at : ℕ) (text form token : List ℕ) → IsSound g
    → IsLexicon l → IsFirst l tokens form first → slice_get l.live place ≡ Some word → slice_get word.forms.texts at ≡ Some text
    → is_used (reads l tokens) word.id ≡ false → 0 < word.id.0
    → Asked g tokens (reads l tokens) token (readings_of l.live form) (ask.Reading (reading word.forms.kind first.id at text))
    → IsBeginning g l (tokens ++ text ∷ [])
new_form_follows g l tokens place word first at text form token sound lexicon f lives is new above a =
    form_back g l tokens place word at text lexicon lives is
    ((new_law g l tokens place f.place word first text form token at sound lexicon lives f.lives (form_among word.forms.texts at text is)
    (form_among first.forms.texts 0 form f.form_is) new f.new above f.above).1 a)

pub new_form_asked : (g : GrammarParts) (l : Listed) (tokens : List (List ℕ)) (place : ℕ) (word first : Word) (text form token : List ℕ) → IsSound g
    → IsLexicon l → g.terminals ≡ l.terminals → IsFirst l tokens form first → slice_get l.live place ≡ Some word → has_form text word ≡ true
    → is_used (reads l tokens) word.id ≡ false → 0 < word.id.0 → IsBeginning g l (tokens ++ text ∷ [])
    → (at : ℕ) × (slice_get word.forms.texts at ≡ Some text)
    × Asked g tokens (reads l tokens) token (readings_of l.live form) (ask.Reading (reading word.forms.kind first.id at text))
new_form_asked g l tokens place word first text form token sound lexicon same f lives has new above b =
    let r = form_law g l tokens place word text lexicon same lives has b in (
      r.0,
      r.1,
      (new_law g l tokens place f.place word first text form token r.0 sound lexicon lives f.lives has (form_among first.forms.texts 0 form f.form_is)
          new f.new above f.above).0 r.2,
    )

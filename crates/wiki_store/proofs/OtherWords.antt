-- Sentences by other words: where each token that stands for something reads as before, so does the sentence.
use Rattle.std.proofs.Common.{◌≡◌, ℕ, zero, suc, ◌<◌, ◌⊎◌, ◌||◌, Bool, true, false, not, cond, List, [], ◌∷◌, ◌++◌, length, get_or, map, find, Option, Some, None, AllPairs, inl, inr, refl, sym, ap, subst, ◌∙◌, arith, option_map}
use Rattle.std.specs.List.{slice_get, list_any}
use Rattle.std.specs.Option.{option_map_or}
use Rattle.std.specs.Str.{bytes_eq}
use Rattle.std.proofs.lemmas.Bool.{false≢true, or_right, or_parts, eqb-true}
use Rattle.std.proofs.lemmas.Option.{slice_get_within, slice_get-map, same_Some}
use Rattle.wiki_base.specs.declared.numbers.WordId.{WordId}
use Rattle.wiki_base.proofs.OptionLaws.{option_or-none}
use Rattle.wiki_base.proofs.ListLaws.{AllPairs-head, AllPairs-tail}
use Rattle.derivation_trees.proofs.ReadingLemmas.{no_readings, unread}
use Rattle.lexicon.proofs.Adding.{free_texts, unreserved_texts}
use Rattle.wiki_parts.proofs.WordLemmas.{readings-with}
use Rattle.codeco_terms.specs.declared.categories.Ground.{Ground}
use Rattle.codeco_terms.specs.GrammarParts.{GrammarParts}
use Rattle.scopes.specs.Resolution.{agrees}
use Rattle.lexicon.specs.declared.kinds.Forms.{Forms}
use Rattle.lexicon.specs.declared.words.Word.{Word}
use Rattle.lexicon.specs.Terminals.{is_spelling_of, is_reserved, raised}
use Rattle.lexicon.specs.Words.{Listed, is_among, has_form, has_number, owner, forms_of, others, next_word, with_word, with_forms, without_word, first_taken, first_reserved, fullness, forms_refusal, add_refusal}
use Rattle.lexicon.specs.Readings.{readings_of_word, readings_of}
use Rattle.derivation_trees.specs.Trees.{Node}
use Rattle.derivation_trees.specs.Derives.{IsDerivation}
use Rattle.derivation_trees.specs.Sentences.{setting_of}
use Rattle.derivation_trees.specs.Skeletons.{IsLeast}
use Rattle.plain_wiki.specs.Meanings.{Meaning, Means}
use Rattle.wiki_store.proofs.PassedLemmas.{IsPassed, derivation_passes}

-- the token is a terminal, or a form of a live word
abbrev pub StandsFor : List (List ℕ) → List Word → List ℕ → Type 0
StandsFor terminals live token = (is_reserved terminals token ≡ true) ⊎ (readings_of live token ≡ [] → ⊥)

-- a token that is the terminal at a place is reserved
reserved_at : (terminals : List (List ℕ)) (token : List ℕ) (t : ℕ) → option_map_or (bytes_eq token) (slice_get terminals t) false ≡ true
    → is_reserved terminals token ≡ true
reserved_at [] token t is = absurd (false≢true is)
reserved_at (terminal ∷ terminals) token zero is = ap (λ b. (b || bytes_eq token (raised terminal)) || is_reserved terminals token) is
reserved_at (terminal ∷ terminals) token (suc t) is = or_right (is_spelling_of token terminal) (is_reserved terminals token) (reserved_at terminals token t is)

-- each token of a derivation stands for something
token_stands : (g : GrammarParts) (words : Listed) (tokens : List (List ℕ)) (tree : Node) → IsDerivation (setting_of g words tokens) tree
    → (k : ℕ) (token : List ℕ) → slice_get tokens k ≡ Some token → StandsFor g.terminals words.live token
token_stands g words tokens tree derives k token here =
    by_case (derivation_passes (setting_of g words tokens) tree derives k (slice_get_within tokens k token here))
  where
    by_case : IsPassed (setting_of g words tokens) k → StandsFor g.terminals words.live token
    by_case (inl terminal) =
        inl (reserved_at g.terminals token terminal.0
        (sym (ap (λ (o : Option (List ℕ)). option_map_or (λ t. option_map_or (bytes_eq t) (slice_get g.terminals terminal.0) false) o false) here)
        ∙ terminal.1))
    by_case (inr preterminal) =
        let there : slice_get (map (readings_of words.live) tokens) k ≡ Some (readings_of words.live token) =
        slice_get-map (readings_of words.live) tokens k ∙ ap (option_map (readings_of words.live)) here in
        let reads : list_any (λ r. agrees r preterminal.0) (readings_of words.live token) ≡ true =
        sym (ap (λ (o : Option (List Ground)). option_map_or (λ rs. list_any (λ r. agrees r preterminal.0) rs) o false) there) ∙ preterminal.1 in
        inr (λ none. false≢true (sym (ap (λ rs. list_any (λ r. agrees r preterminal.0) rs) none) ∙ reads))

map_same : {X Y : Type 0} (f h : X → Y) (xs : List X) → ((k : ℕ) (x : X) → slice_get xs k ≡ Some x → f x ≡ h x) → map f xs ≡ map h xs
map_same f h [] same = refl
map_same {X} {Y} f h (x ∷ xs) same = ap (λ (y : Y). y ∷ map f xs) (same zero x refl)
    ∙ ap (λ (ys : List Y). h x ∷ ys) (map_same f h xs (λ k y at. same (suc k) y at))

-- a sentence has the same meaning by other words, where each of its tokens that stands for something has the same readings
pub means_by : (g : GrammarParts) (words new : Listed) (tokens : List (List ℕ)) (meaning : Meaning)
    → ((k : ℕ) (token : List ℕ) → slice_get tokens k ≡ Some token → StandsFor g.terminals words.live token
    → readings_of new.live token ≡ readings_of words.live token)
    → Means g words tokens meaning → Means g new tokens meaning
means_by g words new tokens meaning same means =
    let stands = token_stands g words tokens means.is_least.tree means.is_least.derives in
    let equal : map (readings_of words.live) tokens ≡ map (readings_of new.live) tokens =
    map_same (readings_of words.live) (readings_of new.live) tokens (λ k token here. sym (same k token here (stands k token here))) in
    record {
      least = means.least;
      is_least = subst (λ (rs : List (List Ground)). IsLeast (record { grammar = g; tokens = tokens; readings = rs }) means.least) equal means.is_least;
      is = means.is;
    }

-- ---- readings by other words

-- a form that may be given to a word stands for nothing by the words that have it not
free_form : (live : List Word) (terminals : List (List ℕ)) (forms : Forms) (token : List ℕ) → forms_refusal live terminals forms ≡ None
    → is_among forms.texts token ≡ true
    → (owner live token ≡ None) × (is_reserved terminals token ≡ false)
free_form live terminals forms token free among =
    let both = option_or-none (first_taken live forms.texts) (first_reserved terminals forms.texts) free in
    (free_texts live forms.texts both.0 token among, unreserved_texts terminals forms.texts both.1 token among)

stands_for_none : (terminals : List (List ℕ)) (live : List Word) (token : List ℕ) → is_reserved terminals token ≡ false → readings_of live token ≡ []
    → StandsFor terminals live token → ⊥
stands_for_none terminals live token free none (inl reserved) = false≢true (sym free ∙ reserved)
stands_for_none terminals live token free none (inr reads) = reads none

-- ---- a word more

-- what stands for something reads the same with a word more
readings-with_word : (words : Listed) (forms : Forms) (token : List ℕ) → forms_refusal words.live words.terminals forms ≡ None
    → StandsFor words.terminals words.live token
    → readings_of (with_word words forms).live token ≡ readings_of words.live token
readings-with_word words forms token free stands = by_test (is_among forms.texts token) refl
  where
    by_test : (b : Bool) → is_among forms.texts token ≡ b → readings_of (with_word words forms).live token ≡ readings_of words.live token
    by_test true among =
        let form = free_form words.live words.terminals forms token free among in
        absurd (stands_for_none words.terminals words.live token form.1 (unread words.live token form.0) stands)
    by_test false lacks = readings-with words.live (next_word words forms) token lacks

-- a sentence keeps its meaning where a word is added
pub means-with_word : (g : GrammarParts) (words : Listed) (forms : Forms) (tokens : List (List ℕ)) (meaning : Meaning) → words.terminals ≡ g.terminals
    → add_refusal words forms ≡ None
    → Means g words tokens meaning → Means g (with_word words forms) tokens meaning
means-with_word g words forms tokens meaning own free means =
    let fits = (option_or-none (forms_refusal words.live words.terminals forms) (fullness words) free).0 in
    means_by g words (with_word words forms) tokens meaning
    (λ k token here stands. readings-with_word words forms token fits (subst (λ (ts : List (List ℕ)). StandsFor ts words.live token) (sym own) stands)) means

-- ---- a word less, or with other forms

-- no word with the number has the token
abbrev Lacks : WordId → List ℕ → List Word → Type 0
Lacks id token [] = Unit {0}
Lacks id token (word ∷ live) = (has_number id word ≡ true → has_form token word ≡ false) × Lacks id token live

-- no word of a greater number than this has the number
lacks_later : (id : WordId) (token : List ℕ) (n : ℕ) (live : List Word) → n ≡ id.0 → ((k : ℕ) (d : Word) → k < length live → n < (get_or live k d).id.0)
    → Lacks id token live
lacks_later id token n [] is later = tt
lacks_later id token n (word ∷ live) is later =
    let above = later zero word (omega arith) in (
      (λ same. let equal = eqb-true word.id.0 id.0 same in absurd (omega (arith, above, equal, is))),
      lacks_later id token n live is (λ k d within. later (suc k) d (omega (arith, within))),
    )

abbrev rises : Word → Word → Type 0
rises word later = word.id.0 < later.id.0

-- a token that is no form of the word is none of the words with its number
lacks_form : (live : List Word) → AllPairs rises live → (id : WordId) (forms : Forms) (token : List ℕ) → forms_of live id ≡ Some forms
    → is_among forms.texts token ≡ false → Lacks id token live
lacks_form [] in_order id forms token of_word lacks = tt
lacks_form (word ∷ live) in_order id forms token of_word lacks =
    by_test (has_number id word) refl of_word (λ later. lacks_form live (AllPairs-tail rises word live in_order) id forms token later lacks)
  where
    by_test : (b : Bool) → has_number id word ≡ b → option_map (λ (w : Word). w.forms) (cond b (Some word) (find (has_number id) live)) ≡ Some forms
        → (forms_of live id ≡ Some forms → Lacks id token live) → Lacks id token (word ∷ live)
    by_test true is here rest =
        let own : word.forms ≡ forms = ap (λ (o : Option Forms). option_map_or (λ (f : Forms). f) o word.forms) here in (
          (λ same. ap (λ (f : Forms). is_among f.texts token) own ∙ lacks),
          lacks_later id token word.id.0 live (eqb-true word.id.0 id.0 is) (λ k d within. AllPairs-head rises word live in_order k d within),
        )
    by_test false is there rest = ((λ same. absurd (false≢true (sym is ∙ same))), rest there)

-- a token that the word lacks reads the same without the word
readings-others : (live : List Word) (id : WordId) (token : List ℕ) → Lacks id token live → readings_of (others live id) token ≡ readings_of live token
readings-others [] id token lacks = refl
readings-others (word ∷ live) id token lacks = by_test (has_number id word) lacks.0 (readings-others live id token lacks.1)
  where
    by_test : (b : Bool) → (b ≡ true → has_form token word ≡ false) → readings_of (others live id) token ≡ readings_of live token
        → readings_of (cond (not b) (word ∷ others live id) (others live id)) token ≡ readings_of_word token word ++ readings_of live token
    by_test true here rest = rest ∙ sym (ap (λ rs. rs ++ readings_of live token) (no_readings token word (here refl)))
    by_test false here rest = ap (λ rs. readings_of_word token word ++ rs) rest

-- a token that the word lacks, and that is none of its other forms, reads the same with them
readings_changed : (live : List Word) (id : WordId) (forms : Forms) (token : List ℕ) → is_among forms.texts token ≡ false → Lacks id token live
    → readings_of (map (λ word. cond (has_number id word) (record word { forms = forms }) word) live) token ≡ readings_of live token
readings_changed [] id forms token fresh lacks = refl
readings_changed (word ∷ live) id forms token fresh lacks = by_test (has_number id word) lacks.0 (readings_changed live id forms token fresh lacks.1)
  where
    left : List Word
    left = map (λ w. cond (has_number id w) (record w { forms = forms }) w) live

    by_test : (b : Bool) → (b ≡ true → has_form token word ≡ false) → readings_of left token ≡ readings_of live token
        → readings_of_word token (cond b (record word { forms = forms }) word) ++ readings_of left token ≡ readings_of_word token word ++ readings_of live token
    by_test true here rest =
        ap (λ rs. rs ++ readings_of left token) (no_readings token (record word { forms = forms }) fresh) ∙ rest
        ∙ sym (ap (λ rs. rs ++ readings_of live token) (no_readings token word (here refl)))
    by_test false here rest = ap (λ rs. readings_of_word token word ++ rs) rest

-- what stands for something, and is no form of the word, reads the same where the word gets other forms
readings-with_forms : (words : Listed) (id : WordId) (forms : Forms) (token : List ℕ) → forms_refusal (others words.live id) words.terminals forms ≡ None
    → Lacks id token words.live
    → StandsFor words.terminals words.live token → readings_of (with_forms words id forms).live token ≡ readings_of words.live token
readings-with_forms words id forms token free lacks stands = by_test (is_among forms.texts token) refl
  where
    by_test : (b : Bool) → is_among forms.texts token ≡ b → readings_of (with_forms words id forms).live token ≡ readings_of words.live token
    by_test true among =
        let form = free_form (others words.live id) words.terminals forms token free among in
        absurd (stands_for_none words.terminals words.live token form.1
        (sym (readings-others words.live id token lacks) ∙ unread (others words.live id) token form.0) stands)
    by_test false fresh = readings_changed words.live id forms token fresh lacks

-- where none passes, the one at a place doesn't
none_passes : {X : Type 0} (p : X → Bool) (xs : List X) (k : ℕ) (x : X) → list_any p xs ≡ false → slice_get xs k ≡ Some x → p x ≡ false
none_passes p [] k x none at = absurd (cc)
none_passes p (y ∷ ys) zero x none at = ap p (sym (same_Some y x at)) ∙ (or_parts (p y) (list_any p ys) none).0
none_passes p (y ∷ ys) (suc k) x none at = none_passes p ys k x (or_parts (p y) (list_any p ys) none).1 at

-- a sentence that has no form of the word keeps its meaning without it
pub means-without_word : (g : GrammarParts) (words : Listed) (id : WordId) (forms : Forms) (tokens : List (List ℕ)) (meaning : Meaning)
    → AllPairs rises words.live → forms_of words.live id ≡ Some forms
    → list_any (is_among forms.texts) tokens ≡ false → Means g words tokens meaning → Means g (without_word words id) tokens meaning
means-without_word g words id forms tokens meaning in_order of_word unused means =
    means_by g words (without_word words id) tokens meaning
    (λ k token here stands. readings-others words.live id token
    (lacks_form words.live in_order id forms token of_word (none_passes (is_among forms.texts) tokens k token unused here))) means

-- a sentence that has no form of the word keeps its meaning where the word gets others
pub means-with_forms : (g : GrammarParts) (words : Listed) (id : WordId) (old forms : Forms) (tokens : List (List ℕ)) (meaning : Meaning)
    → words.terminals ≡ g.terminals → AllPairs rises words.live
    → forms_of words.live id ≡ Some old → forms_refusal (others words.live id) words.terminals forms ≡ None
    → list_any (is_among old.texts) tokens ≡ false → Means g words tokens meaning → Means g (with_forms words id forms) tokens meaning
means-with_forms g words id old forms tokens meaning own in_order of_word free unused means =
    means_by g words (with_forms words id forms) tokens meaning
    (λ k token here stands. readings-with_forms words id forms token free
    (lacks_form words.live in_order id old token of_word (none_passes (is_among old.texts) tokens k token unused here))
    (subst (λ (ts : List (List ℕ)). StandsFor ts words.live token) (sym own) stands)) means

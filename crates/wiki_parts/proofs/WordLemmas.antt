-- Words that come and go leave the meaning of tokens that have none of their forms.
use Rattle.std.proofs.Common.{◌≡◌, ℕ, ◌+◌, Bool, true, false, not, ◌&&◌, ◌||◌, cond, List, [], ◌∷◌, ◌++◌, map, MatchBool, refl, sym, ap, subst, ◌∙◌, append-nil}
use Rattle.std.specs.List.{list_all}
use Rattle.std.proofs.lemmas.Bool.{false≢true, not-true}
use Rattle.std.proofs.lemmas.Grind.{flat_map-append}
use Rattle.wiki_base.specs.declared.numbers.WordId.{WordId}
use Rattle.derivation_trees.proofs.ReadingLemmas.{no_readings}
use Rattle.codeco_terms.specs.declared.categories.Ground.{Ground}
use Rattle.codeco_terms.specs.GrammarParts.{GrammarParts}
use Rattle.lexicon.specs.declared.kinds.Forms.{Forms}
use Rattle.lexicon.specs.declared.words.Word.{Word}
use Rattle.lexicon.specs.Words.{Listed, is_among, has_form, has_number, others, with_word, without_word, next_word}
use Rattle.lexicon.specs.Readings.{readings_of_word, readings_of}
use Rattle.derivation_trees.specs.Skeletons.{IsLeast}
use Rattle.logic_terms.specs.Concept.{Claim}
use Rattle.articles.specs.declared.sentences.Sentence.{Sentence}
use Rattle.plain_wiki.specs.Meanings.{Meaning, stating, Means}
use Rattle.plain_wiki.specs.Knowledge.{is_asserted, StatesFirst, AreStated}

-- a word that comes leaves the readings of a token that is none of its forms
pub readings-with : (live : List Word) (word : Word) (token : List ℕ) → has_form token word ≡ false
    → readings_of (live ++ word ∷ []) token ≡ readings_of live token
readings-with live word token none =
    flat_map-append (readings_of_word token) live (word ∷ [])
    ∙ ap (λ (rs : List Ground). readings_of live token ++ (rs ++ [])) (no_readings token word none)
    ∙ append-nil (readings_of live token)

-- the word isn't the one with the number, or the token is none of its forms
abbrev pub is_no_form_of : WordId → List ℕ → Word → Bool
is_no_form_of id token word = not (has_number id word) || not (has_form token word)

-- a word that goes leaves the readings of a token that is none of its forms
readings-without : (live : List Word) (id : WordId) (token : List ℕ) → list_all (is_no_form_of id token) live ≡ true
    → readings_of (others live id) token ≡ readings_of live token
readings-without [] id token none = refl
readings-without (first ∷ live) id token none =
    by_tests (has_number id first) (has_form token first) (no_readings token first) (readings-without live id token) none
  where
    by_tests : (b f : Bool) → (f ≡ false → readings_of_word token first ≡ [])
        → (list_all (is_no_form_of id token) live ≡ true → readings_of (others live id) token ≡ readings_of live token)
        → ((not b || not f) && list_all (is_no_form_of id token) live) ≡ true
        → readings_of (cond (not b) (first ∷ others live id) (others live id)) token ≡ readings_of_word token first ++ readings_of live token
    by_tests true true no_reading rest none = absurd (false≢true none)
    by_tests true false no_reading rest none = rest none ∙ ap (λ (rs : List Ground). rs ++ readings_of live token) (sym (no_reading refl))
    by_tests false f no_reading rest none = ap (λ (rs : List Ground). readings_of_word token first ++ rs) (rest none)

-- lists of readings that are the same at each token
readings-same : (old new : List Word) (test : List ℕ → Bool) → ((token : List ℕ) → test token ≡ true → readings_of new token ≡ readings_of old token)
    → (tokens : List (List ℕ)) → list_all test tokens ≡ true → map (readings_of new) tokens ≡ map (readings_of old) tokens
readings-same old new test same [] passed = refl
readings-same old new test same (token ∷ tokens) passed = by_test (test token) (same token) (readings-same old new test same tokens) passed
  where
    by_test : (b : Bool) → (b ≡ true → readings_of new token ≡ readings_of old token)
        → (list_all test tokens ≡ true → map (readings_of new) tokens ≡ map (readings_of old) tokens)
        → (b && list_all test tokens) ≡ true → readings_of new token ∷ map (readings_of new) tokens ≡ readings_of old token ∷ map (readings_of old) tokens
    by_test true head rest passed = both (head refl) (rest passed)
      where
        both : {r q : List Ground} {rs qs : List (List Ground)} → r ≡ q → rs ≡ qs → r ∷ rs ≡ q ∷ qs
        both {r} {q} {rs} {qs} one others = cc
    by_test false head rest passed = absurd (false≢true passed)

-- the meaning of tokens is the same where their readings are
pub means-same : (g : GrammarParts) (old new : Listed) (tokens : List (List ℕ)) (meaning : Meaning)
    → map (readings_of new.live) tokens ≡ map (readings_of old.live) tokens
    → Means g old tokens meaning → Means g new tokens meaning
means-same g old new tokens meaning same means = record {
  least = means.least;
  is_least = subst (λ (readings : List (List Ground)). IsLeast (record { grammar = g; tokens = tokens; readings = readings }) means.least) (sym same)
      means.is_least;
  is = means.is;
}

-- a word that comes leaves the meaning of tokens of which none is one of its forms
pub means-with_word : (g : GrammarParts) (words : Listed) (forms : Forms) (tokens : List (List ℕ)) (meaning : Meaning)
    → list_all (λ token. not (is_among forms.texts token)) tokens ≡ true → Means g words tokens meaning → Means g (with_word words forms) tokens meaning
means-with_word g words forms tokens meaning none =
    means-same g words (with_word words forms) tokens meaning
    (readings-same words.live (with_word words forms).live (λ token. not (is_among forms.texts token))
    (λ token passed. readings-with words.live (next_word words forms) token (not-true (is_among forms.texts token) passed)) tokens none)

-- a word that goes leaves the meaning of tokens of which none is one of its forms
pub means-without_word : (g : GrammarParts) (words : Listed) (id : WordId) (tokens : List (List ℕ)) (meaning : Meaning)
    → list_all (λ token. list_all (is_no_form_of id token) words.live) tokens ≡ true → Means g words tokens meaning
    → Means g (without_word words id) tokens meaning
means-without_word g words id tokens meaning none =
    means-same g words (without_word words id) tokens meaning
    (readings-same words.live (without_word words id).live (λ token. list_all (is_no_form_of id token) words.live)
    (λ token passed. readings-without words.live id token passed) tokens none)

-- each token of each sentence reads the same
abbrev pub ReadTheSame : List Word → List Word → List Sentence → Type 0
ReadTheSame old new [] = Unit {0}
ReadTheSame old new (sentence ∷ sentences) = (map (readings_of new) sentence.tokens ≡ map (readings_of old) sentence.tokens) × ReadTheSame old new sentences

-- so the asserted sentences state the same axioms
pub stated-same : (g : GrammarParts) (old new : Listed) (sentences : List Sentence) (claims : List Claim) → ReadTheSame old.live new.live sentences
    → AreStated g old sentences claims → AreStated g new sentences claims
stated-same g old new [] claims same stated = stated
stated-same g old new (sentence ∷ sentences) claims same stated =
    by_status (is_asserted sentence.status) (λ rest. stated-same g old new sentences rest same.1) stated
  where
    by_status : (b : Bool) → ((rest : List Claim) → AreStated g old sentences rest → AreStated g new sentences rest)
        → MatchBool b (StatesFirst g old sentence.tokens (AreStated g old sentences) claims) (AreStated g old sentences claims)
        → MatchBool b (StatesFirst g new sentence.tokens (AreStated g new sentences) claims) (AreStated g new sentences claims)
    by_status true follows first = record {
      own = first.own;
      rest = first.rest;
      means = means-same g old new sentence.tokens (stating first.own) same.0 first.means;
      follow = follows first.rest first.follow;
      joined = first.joined;
    }
    by_status false follows rest = follows claims rest

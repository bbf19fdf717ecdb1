-- What taking a word out asks of the sentences and articles, and what it leaves.
use Rattle.std.proofs.Common.{◌≡◌, ℕ, zero, suc, ◌+◌, ◌<◌, ◌≤◌, ◌==◌, Bool, true, false, not, cond, List, [], ◌∷◌, length, map, filter, find, Option, Some, None, IsSome, is_some, Result, Ok, Err, OnOk, IfErr, refl, sym, ap, subst, ◌∙◌, arith, option_map}
use Rattle.std.specs.List.{slice_get}
use Rattle.std.specs.Option.{option_map_or, option_or, IsSomeAnd}
use Rattle.std.proofs.lemmas.Bool.{false≢true}
use Rattle.std.proofs.lemmas.Bool.Decides.{nat_tests}
use Rattle.std.proofs.lemmas.List.Elements.{All-filter}
use Rattle.std.proofs.lemmas.List.Folds.{find-append}
use Rattle.std.proofs.lemmas.Option.{none-some, slice_get-map}
use Rattle.wiki_base.specs.declared.numbers.WordId.{WordId}
use Rattle.wiki_base.specs.declared.numbers.Place.{Place}
use Rattle.lexicon.specs.declared.kinds.Forms.{Forms}
use Rattle.lexicon.specs.declared.words.Word.{Word}
use Rattle.lexicon.specs.Words.{has_number, forms_of, without_word}
use Rattle.lexicon.specs.declared.words.LexFault.{LexFault}
use Rattle.lexicon.specs.declared.words.LexFault.TheVariants.{NoWord}
use Rattle.wiki_talk.specs.declared.limits.TheConstants.{MOST_SENTENCES}
use Rattle.articles.specs.declared.sentences.Sentence.{Sentence}
use Rattle.articles.specs.declared.article.Article.{Article}
use Rattle.articles.specs.Articles.{is_of, article_of, without_article, IsEmptyArticle}
use Rattle.plain_wiki.specs.State.{Stored}
use Rattle.wiki_parts.specs.Sound.{IsSound}
use Rattle.plain_wiki.specs.Places.{Placed, placed_from, placed_in, all_placed, told_place}
use Rattle.plain_wiki.specs.Causes.{uses_word}
use Rattle.wiki_parts.proofs.UseLemmas.{lives-article, empty-unused}

-- something that is there
pub some_of : {X : Type 0} (o : Option X) → IsSome o → (x : X) × (o ≡ Some x)
some_of None there = absurd (false≢true there)
some_of (Some x) there = (x, refl)

-- a sentence that is found in an article is one of it
found-in : (test : Placed → Bool) (word : WordId) (place : ℕ) (sentences : List Sentence) (found : Placed)
    → find test (placed_from word place sentences) ≡ Some found
    → (found.word ≡ word) × (found.place < place + length sentences)
found-in test word place [] found is = absurd (none-some found is)
found-in test word place (sentence ∷ sentences) found is =
    by_test (test (record { word = word; place = place; sentence = sentence })) (found-in test word (place + 1) sentences found) is
  where
    by_test : (b : Bool) → (find test (placed_from word (place + 1) sentences) ≡ Some found
        → (found.word ≡ word) × (found.place < place + 1 + length sentences))
        → cond b (Some (record { word = word; place = place; sentence = sentence })) (find test (placed_from word (place + 1) sentences)) ≡ Some found
        → (found.word ≡ word) × (found.place < place + length (sentence ∷ sentences))
    by_test true rest is =
        let here : found.place ≡ place = ap (λ (o : Option Placed). option_map_or (λ (p : Placed). p.place) o place) (sym is) in
        (ap (λ (o : Option Placed). option_map_or (λ (p : Placed). p.word) o word) (sym is), omega (arith, here))
    by_test false rest is = let behind = rest is in (behind.0, omega (arith, behind.1))

-- a sentence of one of the articles
pub record FoundAt (articles : List Article) (found : Placed) : Type 0 where
  pub at_place : ℕ
  pub article : Article
  pub here : slice_get articles at_place ≡ Some article
  pub word : found.word ≡ article.word
  pub place : found.place < length article.sentences

-- a sentence that is found is one of an article
pub found-at : (test : Placed → Bool) (articles : List Article) (found : Placed) → find test (all_placed articles) ≡ Some found → FoundAt articles found
found-at test [] found is = absurd (none-some found is)
found-at test (first ∷ articles) found is =
    by_case (find test (placed_in first)) (found-in test first.word 0 first.sentences found) (found-at test articles found)
    (sym (find-append test (placed_in first) (all_placed articles)) ∙ is)
  where
    by_case : (o : Option Placed) → (o ≡ Some found → (found.word ≡ first.word) × (found.place < 0 + length first.sentences))
        → (find test (all_placed articles) ≡ Some found → FoundAt articles found)
        → option_or o (find test (all_placed articles)) ≡ Some found → FoundAt (first ∷ articles) found
    by_case None here rest is = let r = rest is in record { at_place = suc r.at_place; article = r.article; here = r.here; word = r.word; place = r.place }
    by_case (Some q) here rest is = let h = here is in record { at_place = 0; article = first; here = refl; word = h.0; place = omega (arith, h.1) }

-- a number of a live word is that of a word that lives
pub lives-at : (live : List Word) (id : WordId) (k : ℕ) → slice_get (map (λ (word : Word). word.id) live) k ≡ Some id → IsSome (forms_of live id)
lives-at [] id k here = absurd (none-some id here)
lives-at (word ∷ live) id zero here = by_test (word.id.0 == id.0) same
  where
    numbers : word.id.0 ≡ id.0
    numbers = ap (λ (o : Option WordId). option_map_or (λ (w : WordId). w.0) o 0) here

    same : (word.id.0 == id.0) ≡ true
    same = grind (arith, nat_tests)

    by_test : (b : Bool) → b ≡ true → IsSome (option_map (λ (w : Word). w.forms) (cond b (Some word) (find (has_number id) live)))
    by_test true is = refl
    by_test false is = absurd (false≢true is)
lives-at (word ∷ live) id (suc k) here = by_test (has_number id word) (lives-at live id k here)
  where
    by_test : (b : Bool) → IsSome (forms_of live id) → IsSome (option_map (λ (w : Word). w.forms) (cond b (Some word) (find (has_number id) live)))
    by_test true rest = refl
    by_test false rest = rest

module _ (state : Stored) (sound : IsSound state) (test : Placed → Bool) (found : Placed) (is : find test (all_placed state.articles) ≡ Some found) where
  at_last : FoundAt state.articles found
  at_last = found-at test state.articles found is

  -- the word of its article lives
  pub word-lives : IsSome (forms_of state.words.live found.word)
  word-lives =
      let here = ap (λ (ids : List WordId). slice_get ids at_last.at_place) (sym sound.articles)
      ∙ slice_get-map (λ (a : Article). a.word) state.articles at_last.at_place ∙ ap (option_map (λ (a : Article). a.word)) at_last.here in
      subst (λ (w : WordId). IsSome (forms_of state.words.live w)) (sym at_last.word) (lives-at state.words.live at_last.article.word at_last.at_place here)

-- what is told of a place that is found
pub record Told (o : Option Placed) (place : Place) : Type 0 where
  pub found : Placed
  pub is : o ≡ Some found
  pub told : told_place found ≡ place

pub told-found : (o : Option Placed) (place : Place) → option_map told_place o ≡ Some place → Told o place
told-found None place is = absurd (none-some place is)
told-found (Some found) place is = record { found = found; is = refl; told = ap (λ (o : Option Place). option_map_or (λ (t : Place). t) o place) is }

-- nothing is told where nothing is found
pub none-found : (o : Option Placed) → option_map told_place o ≡ None → o ≡ None
none-found None none = refl
none-found (Some found) none = absurd (none-some (told_place found) (sym none))

-- a word that no sentence needs has an empty article
pub empty-article : (state : Stored) → IsSound state → (word : WordId) (forms : Forms) → IsSome (forms_of state.words.live word)
    → find (uses_word word forms) (all_placed state.articles) ≡ None → IsEmptyArticle state.articles word
empty-article state sound word forms lives none =
    by_case (article_of state.articles word) (lives-article state.articles state.words.live word sound.articles lives)
    (empty-unused word forms state.articles none)
  where
    by_case : (o : Option Article) → IsSome o → ((article : Article) → o ≡ Some article → article.sentences ≡ [])
        → IsSomeAnd o (λ article. article.sentences ≡ [])
    by_case None there empty = absurd (false≢true there)
    by_case (Some article) there empty = empty article refl

-- the numbers that are left when one is taken out
numbers-without : {X : Type 0} (id_of : X → WordId) (id : WordId) (xs : List X)
    → map id_of (filter (λ x. not ((id_of x).0 == id.0)) xs) ≡ filter (λ (w : WordId). not (w.0 == id.0)) (map id_of xs)
numbers-without id_of id [] = refl
numbers-without {X} id_of id (x ∷ xs) = by_test ((id_of x).0 == id.0) (numbers-without id_of id xs)
  where
    by_test : (b : Bool) → map id_of (filter (λ y. not ((id_of y).0 == id.0)) xs) ≡ filter (λ (w : WordId). not (w.0 == id.0)) (map id_of xs)
        → map id_of (cond (not b) (x ∷ filter (λ y. not ((id_of y).0 == id.0)) xs) (filter (λ y. not ((id_of y).0 == id.0)) xs))
        ≡ cond (not b) (id_of x ∷ filter (λ (w : WordId). not (w.0 == id.0)) (map id_of xs)) (filter (λ (w : WordId). not (w.0 == id.0)) (map id_of xs))
    by_test true rest = rest
    by_test false rest = ap (λ (ids : List WordId). id_of x ∷ ids) rest

-- the wiki without a word and its article is sound
pub sound-without : (state : Stored) → IsSound state → (word : WordId)
    → IsSound (record state { words = without_word state.words word; articles = without_article state.articles word })
sound-without state sound word = record {
  labelled = sound.labelled;
  terminals = sound.terminals;
  articles = numbers-without (λ (a : Article). a.word) word state.articles ∙ ap (filter (λ (w : WordId). not (w.0 == word.0))) sound.articles
      ∙ sym (numbers-without (λ (w : Word). w.id) word state.words.live);
  few = All-filter (λ (a : Article). not (is_of word a)) (λ (a : Article). length a.sentences ≤ MOST_SENTENCES) state.articles sound.few;
}

-- taking out a word that lives is no fault
pub removed-there : {P : Type 0} (result : Result (Unit {0}) LexFault) (word : WordId) (forms : Option Forms) → OnOk result P
    → IfErr result (λ fault. (fault ≡ NoWord word) × (forms ≡ None)) → IsSome forms → P
removed-there (Ok u) word forms removed refused lives = removed
removed-there (Err fault) word forms removed refused lives = absurd (false≢true (sym (ap is_some refused.1) ∙ lives))

-- The first sentence that needs a word.
use Rattle.std.proofs.Common.{◌≡◌, ℕ, ◌+◌, ◌<◌, ◌==◌, ◌||◌, Bool, true, false, cond, List, [], ◌∷◌, ◌++◌, length, map, drop, get_or, find, Option, Some, None, IsSome, refl, sym, ap, ◌∙◌, option_map}
use Rattle.std.specs.List.{list_any, slice_get}
use Rattle.std.proofs.lemmas.Bool.{false≢true}
use Rattle.std.proofs.lemmas.Option.{none-some}
use Rattle.std.specs.Option.{option_map_or, option_or}
use Rattle.std.proofs.lemmas.List.{drop_more}
use Rattle.std.proofs.lemmas.List.Folds.{find-append}
use Rattle.wiki_base.specs.declared.numbers.WordId.{WordId}
use Rattle.wiki_base.specs.declared.numbers.Place.{Place}
use Rattle.wiki_base.proofs.ListLaws.{drop_slice_get}
use Rattle.lexicon.specs.declared.kinds.Forms.{Forms}
use Rattle.lexicon.specs.declared.words.Word.{Word}
use Rattle.lexicon.specs.Words.{is_among, has_number, forms_of}
use Rattle.articles.specs.declared.sentences.Sentence.{Sentence}
use Rattle.articles.specs.declared.article.Article.{Article}
use Rattle.articles.specs.Articles.{article_of}
use Rattle.plain_wiki.specs.Causes.{uses_word}
use Rattle.plain_wiki.specs.Places.{Placed, placed_from, placed_in, all_placed, told_place}

-- a place in the article of a word
abbrev pub place_in : WordId → ℕ → Place
place_in word p = record { article = word; at = p }

-- what is found in an article is told by its word
pub found-word : (test : Placed → Bool) (word : WordId) (place : ℕ) (sentences : List Sentence)
    → option_map told_place (find test (placed_from word place sentences))
    ≡ option_map (λ (p : ℕ). place_in word p) (option_map (λ (placed : Placed). placed.place) (find test (placed_from word place sentences)))
found-word test word place [] = refl
found-word test word place (sentence ∷ sentences) =
    by_test (test (record { word = word; place = place; sentence = sentence })) (found-word test word (place + 1) sentences)
  where
    by_test : (b : Bool) → option_map told_place (find test (placed_from word (place + 1) sentences))
        ≡ option_map (λ (p : ℕ). place_in word p) (option_map (λ (placed : Placed). placed.place) (find test (placed_from word (place + 1) sentences)))
        → option_map told_place (cond b (Some (record { word = word; place = place; sentence = sentence }))
        (find test (placed_from word (place + 1) sentences)))
        ≡ option_map (λ (p : ℕ). place_in word p)
        (option_map (λ (placed : Placed). placed.place)
        (cond b (Some (record { word = word; place = place; sentence = sentence })) (find test (placed_from word (place + 1) sentences))))
    by_test true rest = refl
    by_test false rest = rest

-- the first in the articles from a place on is that in the article there, or the first behind it
pub find-next : (test : Placed → Bool) (articles : List Article) (i : ℕ) (d : Article) → i < length articles
    → find test (all_placed (drop i articles)) ≡ option_or (find test (placed_in (get_or articles i d))) (find test (all_placed (drop (i + 1) articles)))
find-next test articles i d below =
    ap (λ (some_articles : List Article). find test (all_placed some_articles)) (drop_more articles i d below)
    ∙ find-append test (placed_in (get_or articles i d)) (all_placed (drop (i + 1) articles))

-- the first of them is the one there, where that passes
pub find-here : (test : Placed → Bool) (word : WordId) (sentences : List Sentence) (i : ℕ) (sentence : Sentence) → slice_get sentences i ≡ Some sentence
    → test (record { word = word; place = i; sentence = sentence }) ≡ true
    → find test (placed_from word i (drop i sentences)) ≡ Some (record { word = word; place = i; sentence = sentence })
find-here test word sentences i sentence at passes =
    ap (λ (some_sentences : List Sentence). find test (placed_from word i some_sentences)) (drop_slice_get sentences i sentence at)
    ∙ ap (λ (b : Bool). cond b (Some (record { word = word; place = i; sentence = sentence })) (find test (placed_from word (i + 1) (drop (i + 1) sentences))))
    passes

-- and else it is the first behind it
pub find-past : (test : Placed → Bool) (word : WordId) (sentences : List Sentence) (i : ℕ) (sentence : Sentence) → slice_get sentences i ≡ Some sentence
    → test (record { word = word; place = i; sentence = sentence }) ≡ false
    → find test (placed_from word i (drop i sentences)) ≡ find test (placed_from word (i + 1) (drop (i + 1) sentences))
find-past test word sentences i sentence at fails =
    ap (λ (some_sentences : List Sentence). find test (placed_from word i some_sentences)) (drop_slice_get sentences i sentence at)
    ∙ ap (λ (b : Bool). cond b (Some (record { word = word; place = i; sentence = sentence })) (find test (placed_from word (i + 1) (drop (i + 1) sentences))))
    fails

-- the first of two that may be there, where the first is
pub first-found : (o q : Option Placed) (told : Place) → option_map told_place o ≡ Some told → option_map told_place (option_or o q) ≡ Some told
first-found None q told is = absurd (none-some told is)
first-found (Some x) q told is = is

-- and where it isn't
pub second-found : (o q : Option Placed) → option_map (λ (placed : Placed). placed.place) o ≡ None → option_or o q ≡ q
second-found None q none = refl
second-found (Some x) q none = absurd (none-some x.place (sym none))

-- what is found in neither of two lists
pub find-neither : (test : Placed → Bool) (xs ys : List Placed) → find test (xs ++ ys) ≡ None → (find test xs ≡ None) × (find test ys ≡ None)
find-neither test xs ys none = by_case (find test xs) (find test ys) (sym (find-append test xs ys) ∙ none)
  where
    by_case : (o q : Option Placed) → option_or o q ≡ None → (o ≡ None) × (q ≡ None)
    by_case None q none = (refl, none)
    by_case (Some x) q none = absurd (none-some x (sym none))

-- an article of the word that nothing is found in has no sentence
empty-here : (word : WordId) (forms : Forms) (first : Article) → (first.word.0 == word.0) ≡ true → find (uses_word word forms) (placed_in first) ≡ None
    → first.sentences ≡ []
empty-here word forms first same none = by_case first.sentences none
  where
    found : (b : Bool) (placed : Placed) (rest : Option Placed) → b ≡ true → cond b (Some placed) rest ≡ None → ⊥
    found true placed rest is none = none-some placed (sym none)
    found false placed rest is none = false≢true is

    by_case : (sentences : List Sentence) → find (uses_word word forms) (placed_from first.word 0 sentences) ≡ None → sentences ≡ []
    by_case [] none = refl
    by_case (sentence ∷ sentences) none =
        absurd (found ((first.word.0 == word.0) || list_any (is_among forms.texts) sentence.tokens)
        (record { word = first.word; place = 0; sentence = sentence })
        (find (uses_word word forms) (placed_from first.word (0 + 1) sentences)) (ap (λ (b : Bool). b || list_any (is_among forms.texts) sentence.tokens) same)
        none)

-- where no sentence needs the word, its article has none
pub empty-unused : (word : WordId) (forms : Forms) (articles : List Article) → find (uses_word word forms) (all_placed articles) ≡ None
    → (article : Article) → article_of articles word ≡ Some article → article.sentences ≡ []
empty-unused word forms [] none article is = absurd (none-some article is)
empty-unused word forms (first ∷ articles) none article is =
    let parts = find-neither (uses_word word forms) (placed_in first) (all_placed articles) none in
    by_test (first.word.0 == word.0) (λ same. empty-here word forms first same parts.0) (empty-unused word forms articles parts.1 article) is
  where
    by_test : (b : Bool) → (b ≡ true → first.sentences ≡ []) → (article_of articles word ≡ Some article → article.sentences ≡ [])
        → cond b (Some first) (article_of articles word) ≡ Some article → article.sentences ≡ []
    by_test true here rest is = ap (λ (o : Option Article). option_map_or (λ (a : Article). a.sentences) o []) (sym is) ∙ here refl
    by_test false here rest is = rest is

-- a live word has an article, where the articles are those of the live words
pub lives-article : (articles : List Article) (live : List Word) (id : WordId)
    → map (λ (article : Article). article.word) articles ≡ map (λ (word : Word). word.id) live
    → IsSome (forms_of live id) → IsSome (article_of articles id)
lives-article articles [] id same lives = absurd (false≢true lives)
lives-article [] (word ∷ live) id same lives = cc
lives-article (article ∷ articles) (word ∷ live) id same lives =
    by_test (word.id.0 == id.0) (article.word.0 == id.0) (ap (λ (w : WordId). w.0 == id.0) heads)
    (lives-article articles live id (ap (drop 1) same)) lives
  where
    heads : article.word ≡ word.id
    heads = ap (λ (ids : List WordId). get_or ids 0 article.word) same

    by_test : (b f : Bool) → f ≡ b → (IsSome (forms_of live id) → IsSome (article_of articles id))
        → IsSome (option_map (λ (w : Word). w.forms) (cond b (Some word) (find (has_number id) live))) → IsSome (cond f (Some article) (article_of articles id))
    by_test true true same rest lives = refl
    by_test true false same rest lives = absurd (false≢true same)
    by_test false true same rest lives = refl
    by_test false false same rest lives = rest lives

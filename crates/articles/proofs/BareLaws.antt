-- What articles have, whatever their revisions are.
use Rattle.std.proofs.Common.{◌≡◌, ◌<◌, eqb, List, [], ◌∷◌, map, find, Some, option_map, Bool, true, false, cond, refl, sym, ap, ◌∙◌, arith}
use Rattle.std.proofs.lemmas.Bool.{eqb-true}
use Rattle.std.proofs.lemmas.Option.{none-some, same_Some}
use Rattle.wiki_base.specs.declared.numbers.WordId.{WordId}
use Rattle.wiki_base.proofs.ListLaws.{AllPairs-tail}
use Rattle.articles.specs.declared.sentences.Sentence.{Sentence}
use Rattle.articles.specs.declared.article.Article.{Article}
use Rattle.articles.specs.Articles.{AreInOrder, is_of, article_of, changed, with_change}
use Rattle.articles.specs.Places.{IsPlaceOf}
use Rattle.articles.proofs.PlaceLemmas.{with_change-set}

-- a word with the sentences of its article
abbrev pub Bare : Type 0
Bare = WordId × List Sentence

abbrev pub bared : Article → Bare
bared article = (article.word, article.sentences)

abbrev pub bare : List Article → List Bare
bare articles = map bared articles

abbrev pub is_its : WordId → Bare → Bool
is_its word b = eqb b.0.0 word.0

-- those of the word's article change
abbrev pub or_with : WordId → (List Sentence → List Sentence) → Bare → Bare
or_with word change b = cond (is_its word b) (b.0, change b.1) b

abbrev pub bare_with : WordId → (List Sentence → List Sentence) → List Bare → List Bare
bare_with word change bs = map (or_with word change) bs

-- a change of the word's article is one of its sentences
pub bare-changed : (word : WordId) (change : List Sentence → List Sentence) (articles : List Article)
    → bare (with_change articles word change) ≡ bare_with word change (bare articles)
bare-changed word change [] = refl
bare-changed word change (a ∷ articles) = by (is_of word a) (bare-changed word change articles)
  where
    by : (b : Bool) → bare (with_change articles word change) ≡ bare_with word change (bare articles)
        → bared (cond b (changed change a) a) ∷ bare (with_change articles word change)
        ≡ cond b (a.word, change a.sentences) (bared a) ∷ bare_with word change (bare articles)
    by true rest = ap (λ (bs : List Bare). (a.word, change a.sentences) ∷ bs) rest
    by false rest = ap (λ (bs : List Bare). bared a ∷ bs) rest

-- what is put in place of a change is put in place of what was there
pub bare-over : (word : WordId) (change : List Sentence → List Sentence) (sentences : List Sentence) (bs : List Bare)
    → bare_with word (λ _. sentences) (bare_with word change bs) ≡ bare_with word (λ _. sentences) bs
bare-over word change sentences [] = refl
bare-over word change sentences (b ∷ bs) = by (is_its word b) refl (bare-over word change sentences bs)
  where
    by : (t : Bool) → is_its word b ≡ t → bare_with word (λ _. sentences) (bare_with word change bs) ≡ bare_with word (λ _. sentences) bs
        → or_with word (λ _. sentences) (cond t (b.0, change b.1) b) ∷ bare_with word (λ _. sentences) (bare_with word change bs)
        ≡ cond t (b.0, sentences) b ∷ bare_with word (λ _. sentences) bs
    by true is rest = rw (is, rest) refl
    by false is rest = rw (is, rest) refl

-- an article's own sentences in place of its sentences change nothing
pub bare-restored : (articles : List Article) → AreInOrder articles → (word : WordId) (article : Article) → article_of articles word ≡ Some article
    → bare (with_change articles word (λ _. article.sentences)) ≡ bare articles
bare-restored [] in_order word article is = absurd (none-some article is)
bare-restored (a ∷ articles) in_order word article is =
    by (is_of word a) refl is
    (λ found. bare-restored articles (AllPairs-tail (λ (x y : Article). x.word.0 < y.word.0) a articles in_order) word article found)
  where
    change : List Sentence → List Sentence
    change _ = article.sentences

    first : is_of word a ≡ true → a ≡ article → bare (with_change (a ∷ articles) word change) ≡ bare (a ∷ articles)
    first here same =
        let place : IsPlaceOf (a ∷ articles) word 0 = record { in_range = omega arith; numbered = λ d. eqb-true a.word.0 word.0 here } in
        ap bare (with_change-set (a ∷ articles) in_order word 0 place change a)
        ∙ ap (λ (ss : List Sentence). (a.word, ss) ∷ bare articles) (ap (λ (x : Article). x.sentences) (sym same))

    by : (t : Bool) → is_of word a ≡ t → cond t (Some a) (article_of articles word) ≡ Some article
        → (article_of articles word ≡ Some article → bare (with_change articles word change) ≡ bare articles)
        → bare (with_change (a ∷ articles) word change) ≡ bare (a ∷ articles)
    by true here found rest = first here (same_Some a article found)
    by false other found rest = rw other (ap (λ (bs : List Bare). bared a ∷ bs) (rest found))

-- the sentences of a word's article
pub bare-found : (articles : List Article) (word : WordId)
    → option_map (λ (a : Article). a.sentences) (article_of articles word) ≡ option_map (λ (b : Bare). b.1) (find (is_its word) (bare articles))
bare-found [] word = refl
bare-found (a ∷ articles) word = by (is_of word a) (bare-found articles word)
  where
    by : (t : Bool)
        → option_map (λ (x : Article). x.sentences) (article_of articles word) ≡ option_map (λ (b : Bare). b.1) (find (is_its word) (bare articles))
        → option_map (λ (x : Article). x.sentences) (cond t (Some a) (article_of articles word))
        ≡ option_map (λ (b : Bare). b.1) (cond t (Some (bared a)) (find (is_its word) (bare articles)))
    by true rest = refl
    by false rest = rest

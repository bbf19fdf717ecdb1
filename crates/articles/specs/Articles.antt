-- The articles of a wiki as a list.
use Rattle.std.specs.Prelude.{◌≡◌, ◌<◌, ◌≤◌, ◌+◌, ◌==◌, ℕ, Bool, not, if◌then◌else◌, List, [], length, map, filter, find, AllPairs, slice_get, slice_set, Option, IsSomeAnd}
use Rattle.std.specs.Option.{option_map_or, option_and_then}
use Rattle.wiki_base.specs.declared.numbers.WordId.{WordId}
use Rattle.lexicon.specs.declared.words.TheConstants.{LAST_NUMBER}
use Rattle.wiki_talk.specs.declared.statuses.Status.{Status}
use Rattle.articles.specs.declared.sentences.Sentence.{Sentence}
use Rattle.articles.specs.declared.article.Article.{Article}

-- the article is the word's
abbrev pub is_of : WordId → Article → Bool
is_of word article = article.word.0 == word.0

-- the article of the word
abbrev pub article_of : List Article → WordId → Option Article
article_of articles word = find (is_of word) articles

-- the articles stand in order of the numbers of their words, one for each word
abbrev pub AreInOrder : List Article → Type 0
AreInOrder articles = AllPairs (λ article later. article.word.0 < later.word.0) articles

-- an article without sentences, at revision 0
abbrev pub new_article : WordId → Article
new_article word = record { word = word; revision = record { 0 = 0 }; sentences = [] }

-- the articles but for the word's
abbrev pub without_article : List Article → WordId → List Article
without_article articles word = filter (λ article. not (is_of word article)) articles

-- the article with other sentences, at the next revision
abbrev pub changed : (List Sentence → List Sentence) → Article → Article
changed change article =
    record { word = article.word; revision = record { 0 = article.revision.0 + 1 }; sentences = change article.sentences }

-- the articles, of which the word's gets other sentences, at its next revision
abbrev pub with_change : List Article → WordId → (List Sentence → List Sentence) → List Article
with_change articles word change = map (λ article. if is_of word article then changed change article else article) articles

-- the sentence at a place of the word's article
abbrev pub sentence_at : List Article → WordId → ℕ → Option Sentence
sentence_at articles word at = option_and_then (λ article. slice_get article.sentences at) (article_of articles word)

-- the sentences, of which the one at the place gets another status
abbrev pub with_status : List Sentence → ℕ → Status → List Sentence
with_status sentences at status =
    option_map_or (λ sentence. slice_set sentences at (record sentence { status = status })) (slice_get sentences at) sentences

-- the word has an article
abbrev pub HasArticle : List Article → WordId → Type 0
HasArticle articles word = IsSomeAnd (article_of articles word) (λ _. Unit {0})

-- the word has an article without sentences
abbrev pub IsEmptyArticle : List Article → WordId → Type 0
IsEmptyArticle articles word = IsSomeAnd (article_of articles word) (λ article. article.sentences ≡ [])

-- the word has an article, and it isn't at its last revision
abbrev pub CanChange : List Article → WordId → Type 0
CanChange articles word = IsSomeAnd (article_of articles word) (λ article. article.revision.0 < LAST_NUMBER)

-- the word has an article with a sentence at the place
abbrev pub HasSentence : List Article → WordId → ℕ → Type 0
HasSentence articles word at = IsSomeAnd (article_of articles word) (λ article. at < length article.sentences)

-- the word has an article of so many sentences at least
abbrev pub HasPlace : List Article → WordId → ℕ → Type 0
HasPlace articles word at = IsSomeAnd (article_of articles word) (λ article. at ≤ length article.sentences)

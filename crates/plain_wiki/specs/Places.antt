-- What texts, numbers and places name, and the first of the sentences with a property.
use Rattle.std.specs.Prelude.{◌≡◌, ℕ, ◌+◌, List, [], ◌∷◌, take, find, slice_get, All, Option, Some, option_map, option_and_then}
use Rattle.std.specs.List.{flat_map}
use Rattle.wiki_base.specs.declared.numbers.WordId.{WordId}
use Rattle.wiki_base.specs.declared.numbers.SessionId.{SessionId}
use Rattle.wiki_base.specs.declared.numbers.Place.{Place}
use Rattle.lexicon.specs.declared.words.Word.{Word}
use Rattle.lexicon.specs.Words.{has_form}
use Rattle.articles.specs.declared.sentences.Sentence.{Sentence}
use Rattle.articles.specs.declared.article.Article.{Article}
use Rattle.articles.specs.Articles.{article_of}
use Rattle.plain_wiki.specs.Sessions.{PlainSession, session_of}
use Rattle.plain_wiki.specs.State.{Stored, State}

-- the live word that has the form, and its number
abbrev pub word_with : Stored → List ℕ → Option Word
word_with stored form = find (has_form form) stored.words.live

abbrev pub word_named : Stored → List ℕ → Option WordId
word_named stored form = option_map (λ word. word.id) (word_with stored form)

-- the article of the live word that has the form
abbrev pub article_named : Stored → List ℕ → Option Article
article_named stored form = option_and_then (article_of stored.articles) (word_named stored form)

-- the number as that of a session, and the session that has it
abbrev pub numbered : ℕ → SessionId
numbered number = record { 0 = number }

abbrev pub session_numbered : State → ℕ → Option PlainSession
session_numbered state number = session_of state.sessions (numbered number)

-- a sentence, the word of its article, and its place in it
pub record Placed : Type 0 where
  pub word : WordId
  pub place : ℕ
  pub sentence : Sentence

-- sentences of a word's article, of which the first stands at the place
abbrev pub placed_from : WordId → ℕ → List Sentence → List Placed
placed_from word place [] = []
placed_from word place (sentence ∷ sentences) = record { word = word; place = place; sentence = sentence } ∷ placed_from word (place + 1) sentences

-- the sentences of an article, in order
abbrev pub placed_in : Article → List Placed
placed_in article = placed_from article.word 0 article.sentences

-- all sentences: articles in order of word number, sentences in order
abbrev pub all_placed : List Article → List Placed
all_placed articles = flat_map placed_in articles

-- a place as it is told
abbrev pub told_place : Placed → Place
told_place placed = record { article = placed.word; at = placed.place }

-- the first of these sentences that has the property
pub record IsFirstPlaced (P : Placed → Type 0) (sentences : List Placed) (found : Placed) : Type 0 where
  pub count : ℕ
  pub here : slice_get sentences count ≡ Some found
  pub holds : P found
  pub earlier : All (λ other. ¬ P other) (take count sentences)

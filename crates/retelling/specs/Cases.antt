-- What is told of the sentences that count. Only private calls speak of it.
use Rattle.std.specs.Prelude.{◌≡◌, ℕ, List, [], ◌∷◌, ◌++◌, map, Option, Some}
use Rattle.std.specs.List.{AllZip}
use Rattle.wiki_base.specs.declared.numbers.Place.{Place}
use Rattle.wiki_base.specs.declared.numbers.WordId.{WordId}
use Rattle.logic_terms.specs.Concept.{Claim}
use Rattle.logic_terms.specs.declared.expressions.Class.{Class}
use Rattle.logic_terms.specs.Shown.{concept_of}
use Rattle.articles.specs.declared.sentences.Sentence.{Sentence}
use Rattle.articles.specs.Articles.{sentence_at}
use Rattle.plain_wiki.specs.State.{Stored}
use Rattle.plain_wiki.specs.Meanings.{asking, Means}
use Rattle.plain_wiki.specs.Places.{told_place}
use Rattle.wiki_core.specs.Parts.{counted, States}
use Rattle.retelling.specs.Why.{TellsOf}

-- the sentence at the place asks for the class
pub record AsksFor (state : Stored) (word : WordId) (at : ℕ) (class : Class) : Type 0 where
  pub sentence : Sentence
  pub there : sentence_at state.articles word at ≡ Some sentence
  pub asks : Means state.grammar state.words sentence.tokens (asking (concept_of class))

-- what is told of the sentences that count, with further parts behind theirs
pub record TellsCounted (state : Stored) (budget : ℕ) (taken : Option Place) (more : List (List Claim)) (text : List ℕ) : Type 0 where
  pub places : List Place
  pub are : places ≡ map told_place (counted taken state.articles)
  pub own : List (List Claim)
  pub stated : AllZip (States state.grammar state.words) (counted taken state.articles) own
  pub tells : TellsOf state budget places (own ++ more) text

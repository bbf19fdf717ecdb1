-- The sentences of a wiki as parts of what it knows, and what a sentence means.
use Rattle.std.specs.Prelude.{◌≡◌, ◌==◌, ◌&&◌, ◌||◌, ℕ, Bool, false, List, map, filter, Option, Some, None, option_map, IsTrue, IfSome, All}
use Rattle.std.specs.List.{AllZip, list_all}
use Rattle.wiki_base.specs.declared.numbers.Place.{Place}
use Rattle.wiki_base.specs.declared.numbers.WordId.{WordId}
use Rattle.codeco_terms.specs.GrammarParts.{GrammarParts}
use Rattle.lexicon.specs.Words.{Listed}
use Rattle.logic_terms.specs.Concept.{Concept, Claim}
use Rattle.logic_terms.specs.declared.expressions.Class.{Class}
use Rattle.logic_terms.specs.Plain.{is_plain, are_plain}
use Rattle.logic_terms.specs.Shown.{claims_of, concept_of}
use Rattle.absorb.specs.Mentioned.{names_in, is_among, are_over}
use Rattle.explain.specs.declared.part.Part.{Part}
use Rattle.explain.specs.Answers.{claims_in}
use Rattle.wiki_talk.specs.declared.statuses.Status.{Status}
use Rattle.articles.specs.declared.sentences.Sentence.{Sentence}
use Rattle.articles.specs.declared.article.Article.{Article}
use Rattle.articles.specs.Articles.{sentence_at}
use Rattle.plain_wiki.specs.State.{Stored}
use Rattle.wiki_parts.specs.Kept.{stated_by}
use Rattle.plain_wiki.specs.Knowledge.{is_asserted, live_names}
use Rattle.plain_wiki.specs.Meanings.{Meaning, asking, Means}
use Rattle.plain_wiki.specs.Places.{Placed, all_placed, told_place}
use Rattle.wiki_core.specs.declared.meaning.Meaning.{Meaning as Told}

-- ---- parts

-- whether two places are one
abbrev pub is_same_place : Place → Place → Bool
is_same_place one other = (one.article.0 == other.article.0) && (one.at == other.at)

-- whether a place is that of the sentence that is taken as asserted, if one is
abbrev pub is_taken : Option Place → Place → Bool
is_taken (Some taken) place = is_same_place taken place
is_taken None place = false

-- whether the sentence at the place counts: it is asserted, or taken as asserted
abbrev pub is_counted : Option Place → Place → Status → Bool
is_counted taken place status = is_asserted status || is_taken taken place

-- the sentences that count, articles in order of word number, sentences in order
abbrev pub counted : Option Place → List Article → List Placed
counted taken articles = filter (λ placed. is_counted taken (told_place placed) placed.sentence.status) (all_placed articles)

-- the axioms that the sentence states
pub record States (g : GrammarParts) (words : Listed) (placed : Placed) (claims : List Claim) : Type 0 where
  pub meaning : Meaning
  pub means : Means g words placed.sentence.tokens meaning
  pub stated : claims ≡ stated_by meaning

-- where a part stands
abbrev pub place_of : Part → Place
place_of part = record { article = part.article; at = part.at }

-- The parts are those of the sentences that count, in order: where each stands, and the axioms that it states. These are plain, and over
-- the live names.
pub record AreParts (state : Stored) (taken : Option Place) (parts : List Part) : Type 0 where
  pub places : map place_of parts ≡ map told_place (counted taken state.articles)
  pub stated : AllZip (States state.grammar state.words) (counted taken state.articles) (claims_in parts)
  pub over : All (λ claims. IsTrue (are_over (live_names state.words) claims)) (claims_in parts)
  pub plain : All (λ claims. IsTrue (are_plain claims)) (claims_in parts)

-- ---- meanings

-- the class that a meaning asks for
abbrev pub asked_by : Meaning → Option Concept
asked_by (asking concept) = Some concept
asked_by _ = None

-- the class is plain, and over the live names
pub record IsFitClass (words : Listed) (class : Class) : Type 0 where
  pub over : IsTrue (list_all (is_among (live_names words)) (names_in (concept_of class)))
  pub plain : IsTrue (is_plain (concept_of class))

-- what is told of a sentence: its status, the axioms that it states, and the class that it asks for
pub record IsMeaningOf (state : Stored) (sentence : Sentence) (told : Told) : Type 0 where
  pub status : told.status ≡ sentence.status
  pub meaning : Meaning
  pub means : Means state.grammar state.words sentence.tokens meaning
  pub axioms : claims_of told.axioms ≡ stated_by meaning
  pub class : option_map concept_of told.class ≡ asked_by meaning
  pub fit : IfSome told.class (IsFitClass state.words)

-- the sentence at the place is there, and this is told of it
pub record IsMeaningAt (state : Stored) (word : WordId) (at : ℕ) (told : Told) : Type 0 where
  pub sentence : Sentence
  pub there : sentence_at state.articles word at ≡ Some sentence
  pub is : IsMeaningOf state sentence told

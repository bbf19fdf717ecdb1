-- The parts of sentences whose meanings are kept. Only private calls speak of them.
use Rattle.std.specs.Prelude.{ℕ, ◌+◌, List, [], ◌∷◌, ◌++◌, map, if◌then◌else◌, Option}
use Rattle.wiki_base.specs.declared.numbers.Place.{Place}
use Rattle.wiki_base.specs.declared.numbers.WordId.{WordId}
use Rattle.logic_terms.specs.Concept.{Claim}
use Rattle.logic_terms.specs.Shown.{claims_of}
use Rattle.explain.specs.declared.part.Part.{Part}
use Rattle.wiki_talk.specs.declared.statuses.Status.{Status}
use Rattle.articles.specs.declared.sentences.Sentence.{Sentence}
use Rattle.articles.specs.declared.article.Article.{Article}
use Rattle.wiki_parts.specs.declared.meanings.Sense.{Sense}
use Rattle.wiki_parts.specs.Kept.{stated_by, meanings_in}
use Rattle.plain_wiki.specs.Meanings.{Meaning}
use Rattle.wiki_core.specs.Parts.{is_counted, place_of}

-- a part as what it says
pub record PlainPart : Type 0 where
  pub place : Place
  pub claims : List Claim

abbrev pub plain_part : Part → PlainPart
plain_part part = record { place = place_of part; claims = claims_of part.axioms }

abbrev pub plain_parts : List Part → List PlainPart
plain_parts parts = map plain_part parts

-- the part of the sentence at the place, if it counts
abbrev pub part_at : Option Place → Place → Status → Meaning → List PlainPart
part_at taken place status meaning = if is_counted taken place status then record { place = place; claims = stated_by meaning } ∷ [] else []

-- the place in the word's article
abbrev pub in_article : WordId → ℕ → Place
in_article word at = record { article = word; at = at }

-- the parts of sentences of a word's article, of which the first stands at the place, where they have these meanings
abbrev pub parts_from : Option Place → WordId → ℕ → List Sentence → List Meaning → List PlainPart
parts_from taken word at [] meanings = []
parts_from taken word at (sentence ∷ sentences) [] = []
parts_from taken word at (sentence ∷ sentences) (meaning ∷ meanings) =
    part_at taken (in_article word at) sentence.status meaning ++ parts_from taken word (at + 1) sentences meanings

-- the parts of the sentences of articles
abbrev pub parts_in : Option Place → List Article → List (List Sense) → List PlainPart
parts_in taken [] senses = []
parts_in taken (article ∷ articles) [] = []
parts_in taken (article ∷ articles) (senses ∷ others) =
    parts_from taken article.word 0 article.sentences (meanings_in senses) ++ parts_in taken articles others

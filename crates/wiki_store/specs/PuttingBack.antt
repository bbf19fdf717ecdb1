-- What it is to put back what an article had before a change.
use Rattle.std.specs.Prelude.{◌≡◌, ◌≤◌, List, length, All, option_map, Some}
use Rattle.wiki_base.specs.declared.numbers.WordId.{WordId}
use Rattle.wiki_base.specs.declared.tokens.TheConstants.{MOST_TOKENS}
use Rattle.logic_terms.specs.Concept.{Claim}
use Rattle.logic_terms.specs.Reading.{IsModel}
use Rattle.wiki_talk.specs.declared.limits.TheConstants.{MOST_SENTENCES}
use Rattle.articles.specs.declared.sentences.Sentence.{Sentence}
use Rattle.articles.specs.Articles.{article_of, with_change, HasArticle}
use Rattle.history.specs.declared.kept.Kept.{Kept}
use Rattle.wiki_parts.specs.Holding.{Holding}
use Rattle.wiki_parts.specs.Kept.{meanings_in, MeanEach}
use Rattle.plain_wiki.specs.Knowledge.{sentences_in, Knows}
use Rattle.plain_wiki.specs.State.{Stored}

-- the wiki in which the word's article has these sentences, at its next revision
abbrev pub with_sentences : Stored → WordId → List Sentence → Stored
with_sentences state word sentences = record state { articles = with_change state.articles word (λ _. sentences) }

-- What was kept can be put back: the article is there; each of its former sentences has a derivation from the present words, the meaning
-- that was kept, and a status that fits it, and none has too many tokens; with them there are no more sentences than there may be, and
-- the interpretation that was kept is a model of exactly the axioms that the wiki then knows.
pub record CanBePut (state : Stored) (kept : Kept) : Type 0 where
  pub there : HasArticle state.articles kept.article
  pub mean : MeanEach state.grammar state.words kept.sentences (meanings_in kept.senses)
  pub short : All (λ sentence. length sentence.tokens ≤ MOST_TOKENS) kept.sentences
  pub few : length (sentences_in (with_sentences state kept.article kept.sentences).articles) ≤ MOST_SENTENCES
  pub claims : List Claim
  pub known : Knows (with_sentences state kept.article kept.sentences) claims
  pub model : IsModel kept.interp claims

-- the wiki in which it was put back: the article's former sentences, and the former interpretation
abbrev pub put_back : Holding → Kept → Holding
put_back wiki kept = record wiki { state = with_sentences wiki.state kept.article kept.sentences; interpretation = kept.interp }

-- what is kept of an article that is there: its sentences, and the interpretation that the wiki keeps; and it can be put back
pub record IsOfArticle (wiki : Holding) (word : WordId) (kept : Kept) : Type 0 where
  pub article : kept.article ≡ word
  pub sentences : option_map (λ found. found.sentences) (article_of wiki.state.articles word) ≡ Some kept.sentences
  pub interpretation : kept.interp ≡ wiki.interpretation
  pub can : CanBePut wiki.state kept

-- What is asked of the sentences of the article that a form names.
use Rattle.std.specs.Prelude.{ℕ, List, Option, Some, None, option_and_then}
use Rattle.wiki_talk.specs.declared.requests.ArticleRequest.{ArticleRequest}
use Rattle.wiki_talk.specs.declared.requests.ArticleRequest.TheVariants as of_article
use Rattle.wiki_talk.specs.declared.statuses.Status.TheVariants.{Asserted}
use Rattle.articles.specs.declared.article.Article.{Article}
use Rattle.plain_wiki.specs.State.{Stored}
use Rattle.plain_wiki.specs.Places.{article_named}
use Rattle.plain_wiki.specs.Against.{Causes, against_sentences, against_its_article}
use Rattle.plain_wiki.specs.Doing.{with_inserted, with_replaced, with_marked, sentence_with, place_for}

-- what stands against it
abbrev pub against : Stored → List ℕ → ArticleRequest → Causes
against stored form asked = against_its_article stored form (against_sentences stored asked)

-- what is stored, where the sentence that it judges, if it judges one, is taken as asserted
abbrev pub taken_on : Stored → ArticleRequest → Article → Option Stored
taken_on old (of_article.Add given text) article = Some (with_inserted old article.word (place_for article given) (sentence_with old text Asserted))
taken_on old (of_article.Edit place text) article = Some (with_replaced old article.word place (sentence_with old text Asserted))
taken_on old (of_article.Reassert place) article = Some (with_marked old article.word place Asserted)
taken_on old asked article = None

abbrev pub taken_by : Stored → List ℕ → ArticleRequest → Option Stored
taken_by old form asked = option_and_then (taken_on old asked) (article_named old form)

use Rattle.std.proofs.Common.{◌<◌, length}
use Rattle.std.specs.List.{remove}
use Rattle.articles.specs.declared.article.Article.{Article}
use Rattle.lexicon.specs.declared.words.TheConstants.{LAST_NUMBER}
use Rattle.articles.proofs.PlaceLemmas.{fact_at, change_is, sentence_is}
use Rattle.articles.proofs.articles.Articles.take.Goals as goal

pub take-requires-clause-open : goal.take-requires-clause-open
take-requires-clause-open c = fact_at _ _ c.self.view_is c.self.invariant _ _ c.place_there-place.ensures _ c.index_mut.ensures.value
    (λ (article : Article). article.revision.0 < LAST_NUMBER) c.requires.open

pub take-requires-clause-place : goal.take-requires-clause-place
take-requires-clause-place c = fact_at _ _ c.self.view_is c.self.invariant _ _ c.place_there-place.ensures _ c.index_mut.ensures.value
    (λ (article : Article). c.args.at < length article.sentences) c.requires.place

pub returns-clause-articles : goal.returns-clause-articles
returns-clause-articles c = change_is _ _ c.self.view_is c.self.invariant _ _ c.place_there-place.ensures _ c.index_mut.ensures.value
    (λ sentences. remove sentences c.args.at) _ c.take.ensures.article

pub returns-clause-old : goal.returns-clause-old
returns-clause-old c = rw (sentence_is _ _ c.self.view_is c.self.invariant _ _ c.place_there-place.ensures _ c.index_mut.ensures.value c.args.at)
    c.take.ensures.old

use Rattle.std.proofs.Common.{◌<◌, length}
use Rattle.articles.specs.declared.article.Article.{Article}
use Rattle.lexicon.specs.declared.words.TheConstants.{LAST_NUMBER}
use Rattle.articles.specs.Articles.{with_status}
use Rattle.articles.proofs.PlaceLemmas.{fact_at, change_is}
use Rattle.articles.proofs.articles.Articles.mark.Goals as goal

pub mark-requires-clause-open : goal.mark-requires-clause-open
mark-requires-clause-open c = fact_at _ _ c.self.view_is c.self.invariant _ _ c.place_there-place.ensures _ c.index_mut.ensures.value
    (λ (article : Article). article.revision.0 < LAST_NUMBER) c.requires.open

pub mark-requires-clause-place : goal.mark-requires-clause-place
mark-requires-clause-place c = fact_at _ _ c.self.view_is c.self.invariant _ _ c.place_there-place.ensures _ c.index_mut.ensures.value
    (λ (article : Article). c.args.at < length article.sentences) c.requires.place

pub returns : goal.returns
returns c = change_is _ _ c.self.view_is c.self.invariant _ _ c.place_there-place.ensures _ c.index_mut.ensures.value
    (λ sentences. with_status sentences c.args.at c.args.status) _ c.mark.ensures

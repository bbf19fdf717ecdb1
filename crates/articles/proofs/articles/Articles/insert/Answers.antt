use Rattle.std.proofs.Common.{◌<◌, ◌≤◌, length}
use Rattle.std.specs.List.{insert}
use Rattle.std.proofs.lemmas.Result.{on_ok_weaker}
use Rattle.articles.specs.declared.article.Article.{Article}
use Rattle.lexicon.specs.declared.words.TheConstants.{LAST_NUMBER}
use Rattle.articles.proofs.PlaceLemmas.{fact_at, change_is}
use Rattle.articles.proofs.articles.Articles.insert.Goals as goal

pub insert-requires-clause-open : goal.insert-requires-clause-open
insert-requires-clause-open c = fact_at _ _ c.self.view_is c.self.invariant _ _ c.place_there-place.ensures _ c.index_mut.ensures.value
    (λ (article : Article). article.revision.0 < LAST_NUMBER) c.requires.open

pub insert-requires-clause-place : goal.insert-requires-clause-place
insert-requires-clause-place c = fact_at _ _ c.self.view_is c.self.invariant _ _ c.place_there-place.ensures _ c.index_mut.ensures.value
    (λ (article : Article). c.args.at ≤ length article.sentences) c.requires.place

pub returns-clause-ok : goal.returns-clause-ok
returns-clause-ok c = on_ok_weaker c.insert.result
    (λ inserted. change_is _ _ c.self.view_is c.self.invariant _ _ c.place_there-place.ensures _ c.index_mut.ensures.value
    (λ sentences. insert sentences c.args.at c.args.sentence) _ inserted) c.insert.ensures.ok

use Rattle.std.proofs.Common.{◌<◌, length, set}
use Rattle.articles.specs.declared.article.Article.{Article}
use Rattle.lexicon.specs.declared.words.TheConstants.{LAST_NUMBER}
use Rattle.articles.proofs.PlaceLemmas.{fact_at, change_is, sentence_is}
use Rattle.articles.proofs.articles.Articles.replace.Goals as goal

pub replace-requires-clause-open : goal.replace-requires-clause-open
replace-requires-clause-open c = fact_at _ _ c.self.view_is c.self.invariant _ _ c.place_there-place.ensures _ c.index_mut.ensures.value
    (λ (article : Article). article.revision.0 < LAST_NUMBER) c.requires.open

pub replace-requires-clause-place : goal.replace-requires-clause-place
replace-requires-clause-place c = fact_at _ _ c.self.view_is c.self.invariant _ _ c.place_there-place.ensures _ c.index_mut.ensures.value
    (λ (article : Article). c.args.at < length article.sentences) c.requires.place

pub returns-clause-articles : goal.returns-clause-articles
returns-clause-articles c = change_is _ _ c.self.view_is c.self.invariant _ _ c.place_there-place.ensures _ c.index_mut.ensures.value
    (λ sentences. set sentences c.args.at c.args.sentence) _ c.replace.ensures.article

pub returns-clause-old : goal.returns-clause-old
returns-clause-old c = rw (sentence_is _ _ c.self.view_is c.self.invariant _ _ c.place_there-place.ensures _ c.index_mut.ensures.value c.args.at)
    c.replace.ensures.old

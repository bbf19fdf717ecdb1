use Rattle.std.proofs.Common.{◌<◌, option_map, ap, sym, ◌∙◌, Some}
use Rattle.articles.specs.declared.article.Article.{Article}
use Rattle.lexicon.specs.declared.words.TheConstants.{LAST_NUMBER}
use Rattle.articles.proofs.PlaceLemmas.{fact_at, change_is, found_is}
use Rattle.articles.proofs.articles.Articles.exchange.Goals as goal

pub exchange-requires : goal.exchange-requires
exchange-requires c = fact_at _ _ c.self.view_is c.self.invariant _ _ c.place_there-place.ensures _ c.index_mut.ensures.value
    (λ (article : Article). article.revision.0 < LAST_NUMBER) c.requires

pub returns-clause-articles : goal.returns-clause-articles
returns-clause-articles c = change_is _ _ c.self.view_is c.self.invariant _ _ c.place_there-place.ensures _ c.index_mut.ensures.value
    (λ _. c.args.sentences) _ c.exchange.ensures.article

pub returns-clause-old : goal.returns-clause-old
returns-clause-old c =
    ap (option_map (λ (found : Article). found.sentences))
    (found_is _ _ c.self.view_is c.self.invariant _ _ c.place_there-place.ensures _ c.index_mut.ensures.value)
    ∙ ap Some (sym c.exchange.ensures.old)

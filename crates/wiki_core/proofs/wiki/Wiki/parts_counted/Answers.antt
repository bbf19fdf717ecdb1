use Rattle.std.proofs.Common.{◌≡◌, ◌++◌, List, ap, subst, ◌∙◌}
use Rattle.explain.specs.declared.part.Part.{Part}
use Rattle.articles.specs.declared.article.Article.{Article}
use Rattle.wiki_parts.specs.Kept.{MeanInEach}
use Rattle.wiki_core.specs.Counting.{plain_parts, parts_in}
use Rattle.wiki_core.specs.Holding.{Holding}
use Rattle.wiki_core.proofs.PartLemmas.{are_parts}
use Rattle.wiki_core.proofs.wiki.Wiki.parts_counted.Goals as goal

pub returns : goal.returns
returns c =
    let state = c.args.self.now.state.stored in
    let parts = c.push_articles.new.parts in
    let senses = c.senses.result.now in
    let mean : MeanInEach state.grammar state.words state.articles senses =
    subst (λ (h : Holding). MeanInEach h.state.stored.grammar h.state.stored.words h.state.stored.articles senses) c.self.view_is c.senses.ensures in
    let articles : c.articles.result.now ≡ state.articles = c.articles.ensures ∙ ap (λ (h : Holding). h.state.stored.articles) c.self.view_is in
    let is : plain_parts parts ≡ parts_in c.args.taken state.articles senses =
    c.in_ok-push_articles.ensures
    ∙ ap (λ (ps : List Part). plain_parts ps ++ parts_in c.args.taken c.articles.result.now senses) c.new-parts.ensures
    ∙ ap (λ (as_told : List Article). parts_in c.args.taken as_told senses) articles in
    are_parts state c.args.taken senses parts c.is_fit.ensures.grammar c.is_fit.ensures.words.apart mean is

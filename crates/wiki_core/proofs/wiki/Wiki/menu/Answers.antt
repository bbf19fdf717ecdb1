use Rattle.std.proofs.Common.{ap, ◌∙◌}
use Rattle.wiki_core.specs.Holding.{Holding}
use Rattle.wiki_parts.specs.Spending.{IsCutOff}
use Rattle.wiki_core.proofs.MenuLemmas.{menu_told}
use Rattle.wiki_core.proofs.wiki.Wiki.menu.Goals as goal

pub returns-clause-step : goal.returns-clause-step
returns-clause-step c =
    let session = c.in_ok-editor.field-0.now in
    let by_state = ap (λ (h : Holding). h.state.stored.grammar) c.self.view_is in
    menu_told (IsCutOff c.args.self.now.budget) c.args.self.now.state c.args.number session c.grammar.result.now c.grammar-3.result.now c.lexicon.result.now
    c.tokens.result.now
    c.in_ok-menu.menu c.in_ok-told_menu.field-0 c.complete.result
    c.in_ok-show.field-0 (c.grammar.ensures ∙ by_state) (c.grammar-3.ensures.grammar ∙ c.grammar-2.ensures ∙ by_state)
    (c.lexicon.ensures ∙ ap (λ (h : Holding). h.state.stored.words) c.self.view_is)
    c.tokens.ensures.tokens c.in_ok-editor.ensures.found c.in_ok-editor.ensures.kept c.in_ok-menu.ensures.texts c.are_texts.ensures.texts
    c.in_ok-told_menu.ensures c.complete.ensures c.in_ok-show.ensures.exact

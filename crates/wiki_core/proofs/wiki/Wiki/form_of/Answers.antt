use Rattle.std.proofs.Common.{IsSome, is_some, sym, ap, subst, ◌∙◌}
use Rattle.std.proofs.lemmas.Bool.{false≢true}
use Rattle.articles.specs.Articles.{article_of}
use Rattle.wiki_core.specs.Holding.{Holding}
use Rattle.wiki_core.proofs.HeldLemmas.{lives_with_article}
use Rattle.wiki_core.proofs.wiki.Wiki.form_of.Goals as goal

pub unreachable-requires : goal.unreachable-requires
unreachable-requires c =
    let stored = c.self.inside.store.state in
    let there : IsSome (article_of stored.articles c.args.word) =
    subst (λ (h : Holding). IsSome (article_of h.state.stored.articles c.args.word)) (sym c.self.view_is) c.requires in
    let lives = sym (lives_with_article stored.articles stored.words.live c.args.word c.article_of.ensures.sound.articles) ∙ there in
    absurd (false≢true (ap is_some (rw c.lexicon.ensures at c.in-None.ensures.forms) ∙ lives))

use Rattle.std.proofs.Common.{◌≡◌, ◌+◌, Some, sym, ap, subst, ◌∙◌}
use Rattle.std.specs.Option.{IsSomeAnd}
use Rattle.codeco_terms.specs.GrammarParts.{GrammarParts}
use Rattle.wiki_base.specs.declared.numbers.WordId.{WordId}
use Rattle.articles.specs.Articles.{article_of}
use Rattle.sessions.specs.Sessions.{all_plain, AreKept}
use Rattle.plain_wiki.specs.Places.{article_named}
use Rattle.plain_wiki.specs.Sessions.{PlainSession}
use Rattle.wiki_parts.specs.Spending.{IsCutOff}
use Rattle.wiki_core.specs.Holding.{Holding}
use Rattle.wiki_core.proofs.NamedLemmas.{some_is, article_there}
use Rattle.wiki_core.proofs.HeldLemmas.{held_opened}
use Rattle.wiki_core.proofs.wiki.Wiki.open.Goals as goal

pub invariant_of-self-2 : goal.invariant_of-self-2
invariant_of-self-2 c =
    let stored = c.self.inside.store.state in
    let old = c.self.inside.sessions in
    let word = c.in_ok-word.word in
    let revision = c.in_ok-word.revision in
    let number = c.in_ok-number.number in
    let next : number ≡ c.self.inside.last + 1 = subst (λ (h : Holding). number ≡ h.state.last + 1) (sym c.self.view_is) c.in_ok-number.ensures.next in
    let named : IsSomeAnd (article_named stored c.args.form.now) (λ article. (article.word ≡ word) × (article.revision ≡ revision)) =
    subst (λ (h : Holding). IsSomeAnd (article_named h.state.stored c.args.form.now) (λ article. (article.word ≡ word) × (article.revision ≡ revision)))
    (sym c.self.view_is) c.in_ok-word.ensures.ok in
    let found = some_is (article_named stored c.args.form.now) (λ article. (article.word ≡ word) × (article.revision ≡ revision)) named in
    let there : article_of stored.articles word ≡ Some found.it =
    subst (λ (w : WordId). article_of stored.articles w ≡ Some found.it) found.is.0 (article_there stored c.args.form.now found.it found.named) in
    let kept = c.in_ok-open.ensures.kept stored.words
    (subst (λ (g : GrammarParts). AreKept g stored.words old) (sym c.grammar.ensures) c.self.invariant.kept) in
    held_opened stored old c.open.new.self c.self.inside.last (record { 0 = number }) word revision found.it c.self.invariant next there found.is.1
    c.in_ok-open.ensures.opened
    (subst (λ (g : GrammarParts). AreKept g stored.words c.open.new.self) c.grammar.ensures kept)

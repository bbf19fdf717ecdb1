use Rattle.std.proofs.Common.{◌≡◌, ◌≤◌, Some, is_some, sym, ap, subst, ◌∙◌}
use Rattle.std.proofs.lemmas.Bool.{false≢true}
use Rattle.std.proofs.lemmas.Option.{same_Some}
use Rattle.articles.specs.declared.article.Article.{Article}
use Rattle.plain_wiki.specs.Sessions.{session_of}
use Rattle.sessions.specs.Sessions.{plain, all_plain}
use Rattle.plain_wiki.specs.Places.{session_numbered}
use Rattle.wiki_core.specs.Holding.{Holding}
use Rattle.wiki_core.proofs.HeldLemmas.{on_there}
use Rattle.wiki_core.proofs.wiki.Wiki.article_edited.Goals as goal

pub unreachable-requires : goal.unreachable-requires
unreachable-requires c =
    let session = plain c.args.session.now in
    let found : session_of (all_plain c.self.inside.sessions) (record { 0 = c.args.number }) ≡ Some session =
    subst (λ (h : Holding). session_numbered h.state c.args.number ≡ Some session) (sym c.self.view_is) c.requires in
    let fits = on_there c.self.inside.store.state c.self.inside.sessions c.self.inside.last (record { 0 = c.args.number }) session c.self.invariant found in
    absurd (false≢true (ap is_some (c.in-None.ensures.found ∙ fits.on.there)))

pub returns-clause-seen : goal.returns-clause-seen
returns-clause-seen c =
    let session = plain c.args.session.now in
    let found : session_of (all_plain c.self.inside.sessions) (record { 0 = c.args.number }) ≡ Some session =
    subst (λ (h : Holding). session_numbered h.state c.args.number ≡ Some session) (sym c.self.view_is) c.requires in
    let fits = on_there c.self.inside.store.state c.self.inside.sessions c.self.inside.last (record { 0 = c.args.number }) session c.self.invariant found in
    let same : fits.on.article ≡ c.in-Some.article.now = same_Some fits.on.article c.in-Some.article.now (sym fits.on.there ∙ sym c.in-Some.ensures.found) in
    subst (λ (a : Article). session.revision.0 ≤ a.revision.0) same fits.on.seen

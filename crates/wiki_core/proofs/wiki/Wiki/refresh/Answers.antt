use Rattle.std.proofs.Common.{◌≡◌, Some, sym, subst, arith}
use Rattle.articles.specs.Articles.{article_of}
use Rattle.plain_wiki.specs.Sessions.{session_of, with_revision}
use Rattle.sessions.specs.Sessions.{plain, all_plain}
use Rattle.plain_wiki.specs.Places.{session_numbered}
use Rattle.wiki_core.specs.Holding.{Holding}
use Rattle.std.proofs.Common.{ap}
use Rattle.wiki_parts.specs.Spending.{IsCutOff}
use Rattle.wiki_core.proofs.SessionLemmas.{refresh_step, with_sessions}
use Rattle.wiki_core.proofs.HeldLemmas.{held_changed, plain_in_order, on_there}
use Rattle.plain_wiki.specs.State.{State}
use Rattle.wiki_core.proofs.wiki.Wiki.refresh.Goals as goal

pub invariant_of-self : goal.invariant_of-self
invariant_of-self c =
    let stored = c.self.inside.store.state in
    let old = c.self.inside.sessions in
    let session = plain c.in_ok-session.session.now in
    let article = c.article_edited.result.now in
    let found : session_of (all_plain old) (record { 0 = c.args.number }) ≡ Some session =
    subst (λ (h : Holding). session_numbered h.state c.args.number ≡ Some session) (sym c.self.view_is) c.in_ok-session.ensures.found in
    let there : article_of stored.articles session.article ≡ Some article =
    subst (λ (h : Holding). article_of h.state.stored.articles session.article ≡ Some article) (sym c.self.view_is) c.article_edited.ensures.on in
    held_changed stored stored old c.set_revision.new.self c.self.inside.last (record { 0 = c.args.number }) (with_revision article.revision) session
    c.self.invariant (plain_in_order old c.len.ensures.sessions.in_order) found
    (λ s on. on) (c.set_revision.ensures.kept stored.grammar stored.words c.self.invariant.kept) c.set_revision.ensures.set
    (record {
      on = record { article = article; there = there; seen = omega arith };
      numbered = (on_there stored old c.self.inside.last (record { 0 = c.args.number }) session c.self.invariant found).numbered;
    })

pub returns-clause-step : goal.returns-clause-step
returns-clause-step c =
    let stored = c.self.inside.store.state in
    let old : State = record { stored = stored; sessions = all_plain c.self.inside.sessions; last = c.self.inside.last } in
    let session = plain c.in_ok-session.session.now in
    let article = c.article_edited.result.now in
    let found : session_of (all_plain c.self.inside.sessions) (record { 0 = c.args.number }) ≡ Some session =
    subst (λ (h : Holding). session_numbered h.state c.args.number ≡ Some session) (sym c.self.view_is) c.in_ok-session.ensures.found in
    let there : article_of stored.articles session.article ≡ Some article =
    subst (λ (h : Holding). article_of h.state.stored.articles session.article ≡ Some article) (sym c.self.view_is) c.article_edited.ensures.on in
    rw (sym c.self.view_is) (refresh_step (IsCutOff c.self.inside.store.budget) old (with_sessions old (all_plain c.set_revision.new.self)) c.args.number
    session
    article found there (ap (with_sessions old) c.set_revision.ensures.set))

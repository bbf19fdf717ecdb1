use Rattle.std.proofs.Common.{◌≡◌, refl, sym, subst}
use Rattle.std.proofs.lemmas.Result.{err_from_is_err_and}
use Rattle.sessions.specs.Sessions.{all_plain}
use Rattle.wiki_talk.specs.declared.requests.Request.TheVariants as requests
use Rattle.wiki_talk.specs.declared.requests.WikiRequest.TheVariants as of_wiki
use Rattle.wiki_talk.specs.declared.replies.Reply.TheVariants as replies
use Rattle.wiki_parts.specs.Holding as holding
use Rattle.plain_wiki.specs.Step.{Step}
use Rattle.wiki_parts.specs.Spending.{IsCutOff}
use Rattle.wiki_core.specs.Keeping.{AreHeld}
use Rattle.wiki_core.proofs.HeldLemmas.{held_regrounded}
use Rattle.wiki_core.proofs.wiki.Wiki.reground.Goals as goal

pub returns-in_err-grammar-clause-refused : goal.returns-in_err-grammar-clause-refused
returns-in_err-grammar-clause-refused c =
    let p = err_from_is_err_and c.from_residual.result c.from_residual.ensures.1 in
    rw (p.1, p.2) (rw (sym c.self.view_is) c.in_err-grammar.ensures.refused)

pub invariant_of-self : goal.invariant_of-self
invariant_of-self c =
    let stored = c.self.inside.store.state in
    let sessions = c.in_ok-sessions.sessions in
    subst (λ (h : holding.Holding). AreHeld h.state sessions c.self.inside.last) (sym c.regrounded-2.ensures)
    (held_regrounded stored c.in_ok-grammar.grammar c.in_ok-grammar.lexicon c.self.inside.sessions sessions c.self.inside.last c.self.invariant
    c.in_ok-sessions.ensures.kept c.in_ok-sessions.ensures.rebased)

pub returns-clause-step : goal.returns-clause-step
returns-clause-step c =
    let stored = c.self.inside.store.state in
    let sessions = c.in_ok-sessions.sessions in
    rw (sym c.self.view_is) (subst (λ (h : holding.Holding). Step (IsCutOff c.self.inside.store.budget)
    (record { stored = stored; sessions = all_plain c.self.inside.sessions; last = c.self.inside.last }) (requests.OnWiki (of_wiki.Grammar c.args.text.now))
    replies.Grammar
    (record { stored = h.state; sessions = all_plain sessions; last = c.self.inside.last })) (sym c.regrounded-2.ensures)
    (c.in_ok-grammar.ensures.free, record { stored = c.in_ok-grammar.ensures.takes; sessions = c.in_ok-sessions.ensures.rebased; last = refl }))

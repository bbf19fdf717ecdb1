use Rattle.sessions.specs.Sessions.{plain}
use Rattle.wiki_parts.specs.Faults.{IsAbsent}
use Rattle.wiki_parts.specs.Spending.{IsCutOff}
use Rattle.plain_wiki.specs.Causes.{is_not_offered}
use Rattle.plain_wiki.specs.Places.{session_numbered}
use Rattle.wiki_core.proofs.NamedLemmas.{of_it}
use Rattle.wiki_core.proofs.SessionLemmas.{type_step}
use Rattle.wiki_core.proofs.wiki.Wiki.type_token.Goals as goal

pub returns-clause-step : goal.returns-clause-step
returns-clause-step c =
    let old = c.args.self.now in
    let session = plain c.in_ok-session.session.now in
    type_step (IsCutOff old.budget) old c.put.new.self c.args.number c.args.text.now session c.in_ok-count.count c.in_ok-session.ensures.found
    c.in_ok-count.ensures.count c.in_ok-put.ensures.typed c.in_ok-count.ensures.absent
    (of_it (session_numbered old.state c.args.number) (λ s. IsAbsent (is_not_offered old.state.stored s c.args.text.now)) session c.in_ok-session.ensures.found
    c.in_ok-put.ensures.absent)

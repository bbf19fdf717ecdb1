use Rattle.std.proofs.Common.{◌≡◌, ℕ, ◌-◌, ◌<◌, List, length, take, Some, sym, ap, subst, arith}
use Rattle.wiki_base.specs.declared.numbers.SessionId.{SessionId}
use Rattle.plain_wiki.specs.Sessions.{session_of}
use Rattle.sessions.specs.Sessions.{plain, all_plain}
use Rattle.plain_wiki.specs.State.{State}
use Rattle.plain_wiki.specs.Places.{session_numbered}
use Rattle.wiki_parts.specs.Spending.{IsCutOff}
use Rattle.wiki_core.specs.Holding.{Holding}
use Rattle.wiki_core.proofs.NamedLemmas.{of_it}
use Rattle.wiki_core.proofs.SessionLemmas.{back_step, has_token, with_sessions}
use Rattle.wiki_core.proofs.HeldLemmas.{held_back}
use Rattle.wiki_core.proofs.wiki.Wiki.back.Goals as goal
use Rattle.wiki_core.proofs.wiki.Wiki.back.Goals.{then-back, else-back}

pub invariant_of-self : goal.invariant_of-self
invariant_of-self c =
    let stored = c.self.inside.store.state in
    held_back stored c.self.inside.sessions c.back.new.self c.self.inside.last (record { 0 = c.args.number }) (λ tokens. take (length tokens - 1) tokens)
    c.back.result c.self.invariant
    (c.back.ensures.kept stored.grammar stored.words c.self.invariant.kept) c.back.ensures.last c.back.ensures.none

pub returns-clause-step : goal.returns-clause-step
returns-clause-step c =
    let stored = c.self.inside.store.state in
    let old : State = record { stored = stored; sessions = all_plain c.self.inside.sessions; last = c.self.inside.last } in
    let session = plain c.in_ok-session.field-0.now in
    let number : SessionId = record { 0 = c.args.number } in
    let found : session_of (all_plain c.self.inside.sessions) number ≡ Some session =
    subst (λ (h : Holding). session_numbered h.state c.args.number ≡ Some session) (sym c.self.view_is) c.in_ok-session.ensures.found in
    elim c.if-back.branch [
      | then-back w ↦
          let has : 0 < length session.tokens =
          of_it (session_of (all_plain c.self.inside.sessions) number) (λ s. 0 < length s.tokens) session found (c.back.ensures.some w.if-back.true) in
          let tokens = ap (λ (ts : List (List ℕ)). length ts) c.tokens.ensures.tokens in
          rw (w.result-is, sym c.self.view_is)
          (back_step (IsCutOff c.self.inside.store.budget) old (with_sessions old (all_plain c.back.new.self)) c.args.number
          session found (has_token session has) _ (omega (arith, c.len-count.ensures, tokens)) (ap (with_sessions old) (c.back.ensures.last w.if-back.true)))
      | else-back w ↦ rw w.result-is tt
    ]

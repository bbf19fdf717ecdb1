use Rattle.std.proofs.Common.{sym, subst}
use Rattle.sessions.specs.Sessions.{all_plain}
use Rattle.wiki_talk.specs.declared.requests.Request.TheVariants as requests
use Rattle.wiki_talk.specs.declared.requests.SessionRequest.TheVariants as of_session
use Rattle.wiki_core.specs.Drafts.{IsDraftOf}
use Rattle.wiki_core.specs.Holding.{Holding}
use Rattle.plain_wiki.specs.Against.{IsFree}
use Rattle.wiki_parts.specs.Spending.{IsCutOff}
use Rattle.wiki_core.proofs.HeldLemmas.{has_found}
use Rattle.wiki_core.proofs.CommitLemmas.{commits, commit_held, commit_spends}
use Rattle.wiki_core.proofs.wiki.Wiki.commit.Goals as goal

pub begin_again-requires : goal.begin_again-requires
begin_again-requires c =
    let is : IsDraftOf (record { stored = c.self.inside.store.state; sessions = all_plain c.self.inside.sessions; last = c.self.inside.last }) c.args.number
    c.in_ok-draft.draft =
    subst (λ (h : Holding). IsDraftOf h.state c.args.number c.in_ok-draft.draft) (sym c.self.view_is) c.in_ok-draft.ensures.draft in
    has_found (all_plain c.self.inside.sessions) (record { 0 = c.args.number }) is.session is.named

pub invariant_of-self-2 : goal.invariant_of-self-2
invariant_of-self-2 c =
    let is : IsDraftOf (record { stored = c.self.inside.store.state; sessions = all_plain c.self.inside.sessions; last = c.self.inside.last }) c.args.number
    c.in_ok-draft.draft =
    subst (λ (h : Holding). IsDraftOf h.state c.args.number c.in_ok-draft.draft) (sym c.self.view_is) c.in_ok-draft.ensures.draft in
    commit_held c.self.inside.store.state c.append.new.self.state c.self.inside.sessions c.begin_again.new.sessions c.self.inside.last c.args.number
    c.in_ok-draft.draft c.in_ok-status.status c.self.invariant
    c.len.ensures.sessions is c.in_ok-status.ensures.after c.begin_again.ensures.changed c.begin_again.ensures.kept

pub returns-clause-step : goal.returns-clause-step
returns-clause-step c =
    let is : IsDraftOf (record { stored = c.self.inside.store.state; sessions = all_plain c.self.inside.sessions; last = c.self.inside.last }) c.args.number
    c.in_ok-draft.draft =
    subst (λ (h : Holding). IsDraftOf h.state c.args.number c.in_ok-draft.draft) (sym c.self.view_is) c.in_ok-draft.ensures.draft in
    let free = subst (λ (h : Holding). IsFree h.state (requests.OnSession c.args.number of_session.Commit)) (sym c.self.view_is) c.in_ok-draft.ensures.free in
    rw (sym c.self.view_is) (
      free,
      commits (IsCutOff c.self.inside.store.budget) c.self.inside.store.state (all_plain c.self.inside.sessions) c.self.inside.last c.args.number
          c.in_ok-draft.draft c.in_ok-status.status
          c.append.new.self.state
          (all_plain c.begin_again.new.sessions) is c.in_ok-status.ensures.status c.in_ok-status.ensures.after c.begin_again.ensures.changed,
    )

pub returns-clause-spent : goal.returns-clause-spent
returns-clause-spent c =
    rw (sym c.self.view_is) (commit_spends (record {
      state = record { stored = c.self.inside.store.state; sessions = all_plain c.self.inside.sessions; last = c.self.inside.last };
      budget = c.self.inside.store.budget;
      interpretation = c.self.inside.store.interpretation;
    }) c.args.number c.in_ok-draft.draft c.in_ok-status.status
    (subst (λ (h : Holding). IsDraftOf h.state c.args.number c.in_ok-draft.draft) (sym c.self.view_is) c.in_ok-draft.ensures.draft)
    c.in_ok-status.ensures.spent)

use Rattle.std.proofs.Common.{◌≡◌, ℕ, ◌-◌, ◌<◌, List, [], length, take, refl, ap}
use Rattle.chart.proofs.DropLemmas.{dropped_kept}
use Rattle.derivation_trees.specs.Settings.{Setting}
use Rattle.editor.proofs.EditingLemmas.{edited_back}
use Rattle.plain_wiki.specs.Sessions.{PlainSession, with_tokens}
use Rattle.sessions.proofs.ChangeLemmas.{holds_at, kept_at, edited_at, change_is, kept_after, same_after, still_sessions, plain_edited}
use Rattle.sessions.proofs.sessions.Sessions.back.Goals as goal

pub invariant_of-self : goal.invariant_of-self
invariant_of-self c =
    still_sessions _ _ c.self.view_is c.self.invariant _ _ c.place_there-place.ensures _ c.index_mut.ensures.value _ refl
    (edited_back _ _ c.back.result (edited_at _ _ c.self.view_is c.self.invariant _ _ c.place_there-place.ensures _ c.index_mut.ensures.value)
    c.back.ensures.none c.back.ensures.last)

pub returns-clause-none : goal.returns-clause-none
returns-clause-none c = λ no. (
  holds_at _ _ c.self.view_is c.self.invariant _ _ c.place_there-place.ensures _ c.index_mut.ensures.value (λ (session : PlainSession). session.tokens ≡ [])
      (c.back.ensures.none no).0,
  same_after _ _ c.self.view_is c.self.invariant _ _ c.place_there-place.ensures _ c.index_mut.ensures.value _ (c.back.ensures.none no).1,
)

pub returns-clause-some : goal.returns-clause-some
returns-clause-some c = λ yes.
    holds_at _ _ c.self.view_is c.self.invariant _ _ c.place_there-place.ensures _ c.index_mut.ensures.value
    (λ (session : PlainSession). 0 < length session.tokens) (c.back.ensures.last yes).0

pub returns-clause-last : goal.returns-clause-last
returns-clause-last c = λ yes.
    change_is _ _ c.self.view_is c.self.invariant _ _ c.place_there-place.ensures _ c.index_mut.ensures.value
    (with_tokens (λ tokens. take (length tokens - 1) tokens)) _
    (plain_edited c.index_mut.result.now c.back.new.self (λ (tokens : List (List ℕ)). take (length tokens - 1) tokens)
    (ap (λ (s : Setting). s.tokens) (c.back.ensures.last yes).1))

pub returns-clause-kept : goal.returns-clause-kept
returns-clause-kept c = λ g l h.
    kept_after _ _ c.self.view_is c.self.invariant _ _ c.place_there-place.ensures _ c.index_mut.ensures.value g l _ h
    (dropped_kept g l _ _ c.back.result (kept_at _ _ c.self.view_is c.self.invariant _ _ c.place_there-place.ensures _ c.index_mut.ensures.value g l h)
    c.back.ensures.none c.back.ensures.last)

use Rattle.std.proofs.Common.{[], refl, ap}
use Rattle.derivation_trees.specs.Settings.{Setting}
use Rattle.editor.proofs.EditingLemmas.{edited_less, nothing_kept}
use Rattle.plain_wiki.specs.Sessions.{with_tokens}
use Rattle.sessions.proofs.ChangeLemmas.{kept_at, edited_at, change_is, kept_after, still_sessions, plain_edited}
use Rattle.sessions.proofs.sessions.Sessions.clear.Goals as goal

pub invariant_of-self : goal.invariant_of-self
invariant_of-self c =
    still_sessions _ _ c.self.view_is c.self.invariant _ _ c.place_there-place.ensures _ c.index_mut.ensures.value _ refl
    (edited_less _ _ 0 (edited_at _ _ c.self.view_is c.self.invariant _ _ c.place_there-place.ensures _ c.index_mut.ensures.value) c.clear.ensures)

pub returns-clause-cleared : goal.returns-clause-cleared
returns-clause-cleared c =
    change_is _ _ c.self.view_is c.self.invariant _ _ c.place_there-place.ensures _ c.index_mut.ensures.value (with_tokens (λ _. [])) _
    (plain_edited c.index_mut.result.now c.clear.new.self (λ _. []) (ap (λ (s : Setting). s.tokens) c.clear.ensures))

pub returns-clause-kept : goal.returns-clause-kept
returns-clause-kept c = λ g l h.
    kept_after _ _ c.self.view_is c.self.invariant _ _ c.place_there-place.ensures _ c.index_mut.ensures.value g l _ h
    (nothing_kept g l _ _ (kept_at _ _ c.self.view_is c.self.invariant _ _ c.place_there-place.ensures _ c.index_mut.ensures.value g l h) c.clear.ensures)

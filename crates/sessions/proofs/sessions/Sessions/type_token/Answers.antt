use Rattle.std.proofs.Common.{ℕ, ◌<◌, List, [], ◌∷◌, ◌++◌, length, refl, ap}
use Rattle.std.proofs.lemmas.Result.{on_ok_weaker, on_err_weaker}
use Rattle.wiki_base.specs.declared.tokens.TheConstants.{MOST_TOKENS}
use Rattle.derivation_trees.specs.Settings.{Setting}
use Rattle.editor.specs.Editing.{typed, IsInMenu}
use Rattle.editor.proofs.EditingLemmas.{typed_edited, typed_kept}
use Rattle.plain_wiki.specs.Sessions.{PlainSession, with_tokens}
use Rattle.sessions.proofs.ChangeLemmas.{fact_at, holds_at, kept_at, edited_at, change_is, kept_after, same_after, still_sessions, plain_edited}
use Rattle.sessions.proofs.sessions.Sessions.type_token.Goals as goal

pub type_token-requires-clause-kept : goal.type_token-requires-clause-kept
type_token-requires-clause-kept c = kept_at _ _ c.self.view_is c.self.invariant _ _ c.place_there-place.ensures _ c.index_mut.ensures.value c.args.grammar.now
    c.args.lexicon.now c.requires.kept

pub type_token-requires-clause-room : goal.type_token-requires-clause-room
type_token-requires-clause-room c =
    fact_at _ _ c.self.view_is c.self.invariant _ _ c.place_there-place.ensures _ c.index_mut.ensures.value
    (λ (session : PlainSession). length session.tokens < MOST_TOKENS) c.requires.room

pub invariant_of-self : goal.invariant_of-self
invariant_of-self c =
    still_sessions _ _ c.self.view_is c.self.invariant _ _ c.place_there-place.ensures _ c.index_mut.ensures.value _ refl
    (typed_edited c.type_token.result c.args.grammar.now c.args.lexicon.now _ _ _
    (kept_at _ _ c.self.view_is c.self.invariant _ _ c.place_there-place.ensures _ c.index_mut.ensures.value c.args.grammar.now c.args.lexicon.now
    c.requires.kept)
    (fact_at _ _ c.self.view_is c.self.invariant _ _ c.place_there-place.ensures _ c.index_mut.ensures.value
    (λ (session : PlainSession). length session.tokens < MOST_TOKENS) c.requires.room)
    (edited_at _ _ c.self.view_is c.self.invariant _ _ c.place_there-place.ensures _ c.index_mut.ensures.value)
    c.type_token.ensures.added c.type_token.ensures.offered c.type_token.ensures.unchanged)

pub returns-clause-typed : goal.returns-clause-typed
returns-clause-typed c =
    let change : List (List ℕ) → List (List ℕ) = λ tokens. tokens ++ typed c.args.grammar.now.terminals tokens c.args.text.now ∷ [] in
    on_ok_weaker c.type_token.result (λ added.
    change_is _ _ c.self.view_is c.self.invariant _ _ c.place_there-place.ensures _ c.index_mut.ensures.value (with_tokens change) _
    (plain_edited c.index_mut.result.now c.type_token.new.self change (ap (λ (s : Setting). s.tokens) added))) c.type_token.ensures.added

pub returns-clause-offered : goal.returns-clause-offered
returns-clause-offered c =
    on_ok_weaker c.type_token.result
    (holds_at _ _ c.self.view_is c.self.invariant _ _ c.place_there-place.ensures _ c.index_mut.ensures.value
    (λ (session : PlainSession). IsInMenu c.args.grammar.now c.args.lexicon.now session.tokens
    (typed c.args.grammar.now.terminals session.tokens c.args.text.now))) c.type_token.ensures.offered

pub returns-clause-refused : goal.returns-clause-refused
returns-clause-refused c = λ refused.
    holds_at _ _ c.self.view_is c.self.invariant _ _ c.place_there-place.ensures _ c.index_mut.ensures.value
    (λ (session : PlainSession). IsInMenu c.args.grammar.now c.args.lexicon.now session.tokens
    (typed c.args.grammar.now.terminals session.tokens c.args.text.now) → ⊥) (c.type_token.ensures.refused refused)

pub returns-clause-kept : goal.returns-clause-kept
returns-clause-kept c =
    kept_after _ _ c.self.view_is c.self.invariant _ _ c.place_there-place.ensures _ c.index_mut.ensures.value c.args.grammar.now c.args.lexicon.now _
    c.requires.kept
    (typed_kept c.type_token.result c.args.grammar.now c.args.lexicon.now _ _ _
    (kept_at _ _ c.self.view_is c.self.invariant _ _ c.place_there-place.ensures _ c.index_mut.ensures.value c.args.grammar.now c.args.lexicon.now
    c.requires.kept) c.type_token.ensures.added c.type_token.ensures.unchanged)

pub returns-clause-unchanged : goal.returns-clause-unchanged
returns-clause-unchanged c =
    on_err_weaker c.type_token.result (same_after _ _ c.self.view_is c.self.invariant _ _ c.place_there-place.ensures _ c.index_mut.ensures.value _)
    c.type_token.ensures.unchanged

use Rattle.std.proofs.Common.{◌≡◌, ◌∙◌, ◌+◌, List, [], ◌∷◌, ◌++◌, take, All, refl, ap, subst, sym}
use Rattle.std.proofs.lemmas.List.{take_more}
use Rattle.editor.specs.Editing.{IsEdited}
use Rattle.sessions.specs.declared.session.Session.{Session}
use Rattle.plain_wiki.specs.Sessions.{AreRebased}
use Rattle.sessions.specs.Sessions.{all_plain, AreKept}
use Rattle.sessions.proofs.ChangeLemmas.{opened_kept, opened_edited, rebased_more, rebased_whole, rebased_sessions}
use Rattle.sessions.proofs.sessions.Sessions.regrounded.Goals as goal

pub loop-session-preserved : goal.loop-session-preserved
loop-session-preserved c =
    let g = c.args.grammar.now in
    let l = c.args.lexicon.now in
    let items = c.deref-session-items.result.now in
    let i = c.loop-session.session-index in
    let old : Session = c.session-item.result in
    let new : Session = record { number = old.number; article = old.article; revision = old.revision; editor = c.in_ok-editor.editor } in
    let more : take (i + 1) items ≡ take i items ++ old ∷ [] =
    take_more items i old c.loop-session-test.true ∙ ap (λ (s : Session). take i items ++ s ∷ []) (sym c.session-item.is) in
    let pushed : c.push.new.self.items ≡ c.loop-session.sessions.items ++ new ∷ [] =
    c.in_ok-push.ensures.items ∙ ap (λ (s : Session). c.loop-session.sessions.items ++ s ∷ []) c.with_editor.ensures in (
      subst (λ (xs : List Session). AreRebased g l (all_plain (take (i + 1) items)) (all_plain xs)) (sym pushed)
          (rebased_more g l (take i items) c.loop-session.sessions.items old (take (i + 1) items) more new c.loop-session.invariant.0
          (record { number = refl; article = refl; revision = refl; tokens = c.in_ok-editor.ensures.tokens })),
      subst (AreKept g l) (sym pushed) (opened_kept g l c.loop-session.sessions.items new c.loop-session.invariant.1 c.in_ok-editor.ensures.kept),
      subst (All (λ (session : Session). IsEdited session.editor)) (sym pushed)
          (opened_edited c.loop-session.sessions.items new c.loop-session.invariant.2 c.in_ok-editor.ensures.edited),
    )

pub invariant_of-result : goal.invariant_of-result
invariant_of-result c =
    rebased_sessions c.args.grammar.now c.args.lexicon.now c.self.inside.sessions.items c.loop-session.sessions.items c.self.invariant
    (rebased_whole c.args.grammar.now c.args.lexicon.now c.deref-session-items.result.now c.self.inside.sessions.items c.loop-session.sessions.items
    c.loop-session.session-index c.loop-session-test.false c.deref-session-items.ensures.value c.loop-session.invariant.0)
    c.loop-session.invariant.2

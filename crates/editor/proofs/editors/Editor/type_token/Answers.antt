use Rattle.std.proofs.Common.{subst, sym}
use Rattle.editor.specs.Editing.{IsEdited}
use Rattle.editor.proofs.EditingLemmas.{edited_more, undone, view_kept, view_room}
use Rattle.editor.proofs.editors.Editor.type_token.Goals as goal

pub invariant_of-self-then-offered : goal.invariant_of-self-then-offered
invariant_of-self-then-offered c =
    edited_more c.args.grammar.now c.args.lexicon.now c.self.inside.chart _ _
    (view_kept c.args.grammar.now c.args.lexicon.now c.self.inside.chart c.args.self.now c.self.view_is c.requires.kept)
    (view_room c.self.inside.chart c.args.self.now c.self.view_is c.requires.room) c.self.invariant c.in_ok-offered.ensures.added
    (c.in_ok-offered.ensures.begins.0 c.if-offered.true)

pub invariant_of-self-2 : goal.invariant_of-self-2
invariant_of-self-2 c =
    subst IsEdited (sym (undone c.args.grammar.now c.args.lexicon.now c.self.inside.chart _ _ _ c.back.result
    (view_kept c.args.grammar.now c.args.lexicon.now c.self.inside.chart c.args.self.now c.self.view_is c.requires.kept) c.in_ok-offered.ensures.added
    c.back.ensures.none c.back.ensures.last))
    c.self.invariant

use Rattle.editor.proofs.EditingLemmas.{edited_back}
use Rattle.editor.proofs.editors.Editor.back.Goals as goal

pub invariant_of-self : goal.invariant_of-self
invariant_of-self c = edited_back _ _ c.back.result c.self.invariant c.back.ensures.none c.back.ensures.last

use Rattle.editor.proofs.EditingLemmas.{nothing_edited}
use Rattle.editor.proofs.editors.Editor.new.Goals as goal

pub invariant_of-result : goal.invariant_of-result
invariant_of-result c = nothing_edited _ _ c.grammar.ensures.sound c.in_ok-chart.ensures

pub returns-clause-edited : goal.returns-clause-edited
returns-clause-edited c = nothing_edited _ _ c.grammar.ensures.sound c.in_ok-chart.ensures

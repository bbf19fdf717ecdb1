use Rattle.std.proofs.Common.{length}
use Rattle.editor.proofs.EditingLemmas.{IsFront}
use Rattle.editor.proofs.editors.empty.Given as goal

abbrev pub invariant-loop : goal.invariant-loop
invariant-loop l = IsFront l.initial.chart l.chart

abbrev pub decreases-loop : goal.decreases-loop
decreases-loop l = length l.chart.tokens

use Rattle.codeco_labels.proofs.MisfitLemmas.{Seen}
use Rattle.codeco_labels.proofs.misfits.first_unfit.Given as goal

abbrev pub invariant-loop-place : goal.invariant-loop-place
invariant-loop-place l = Seen l.rules l.marks l.initial.table l.table l.place

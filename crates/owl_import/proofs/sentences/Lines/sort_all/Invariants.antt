use Rattle.std.proofs.Common.{take}
use Rattle.logic_terms.specs.Shown.{claims_of}
use Rattle.owl_import.specs.Steps.{SortsAll}
use Rattle.owl_import.proofs.sentences.Lines.sort_all.Given as goal

-- the axioms so far are sorted
abbrev pub invariant-loop-place : goal.invariant-loop-place
invariant-loop-place l = SortsAll l.grammar l.called.words.now l.called.iris.now (take l.place (claims_of l.axioms)) l.initial.self l.self

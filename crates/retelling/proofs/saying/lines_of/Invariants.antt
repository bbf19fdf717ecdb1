use Rattle.std.proofs.Common.{take}
use Rattle.logic_terms.specs.Shown.{claims_of}
use Rattle.retelling.specs.Saying.{AreLinesOf}
use Rattle.retelling.proofs.saying.lines_of.Given as goal

-- the lines of the axioms so far
abbrev pub invariant-loop-place : goal.invariant-loop-place
invariant-loop-place l = AreLinesOf l.grammar l.words (take l.place (claims_of l.axioms)) l.lines

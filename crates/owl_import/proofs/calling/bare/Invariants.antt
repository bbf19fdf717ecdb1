use Rattle.std.proofs.Common.{◌≡◌, false, ◌++◌, drop}
use Rattle.owl_import.specs.Words.{bare}
use Rattle.owl_import.proofs.calling.bare.Given as goal

-- what was made so far, and what is left without its colons
abbrev pub invariant-loop-place : goal.invariant-loop-place
invariant-loop-place l = bare false l.text ≡ l.made.items ++ bare l.inside (drop l.place l.text)

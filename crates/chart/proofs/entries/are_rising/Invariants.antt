use Rattle.std.proofs.Common.{map, take}
use Rattle.derivations.specs.Entries.{shown, IsInOrder}
use Rattle.chart.proofs.entries.are_rising.Given as goal

abbrev pub invariant-loop-place : goal.invariant-loop-place
invariant-loop-place l = IsInOrder (take l.place (map shown l.entries))

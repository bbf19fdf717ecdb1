use Rattle.std.proofs.Common.{◌-◌, map}
use Rattle.derivations.specs.Entries.{shown}
use Rattle.derivations.proofs.EntryLemmas.{Between}
use Rattle.chart.proofs.entries.place_for.Given as goal

abbrev pub invariant-loop-low : goal.invariant-loop-low
invariant-loop-low l = Between (map shown l.entries) (shown l.entry) l.low l.high

abbrev pub decreases-loop-low : goal.decreases-loop-low
decreases-loop-low l = l.high - l.low

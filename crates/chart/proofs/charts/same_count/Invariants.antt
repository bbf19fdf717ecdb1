use Rattle.std.proofs.Common.{◌≡◌, take, map}
use Rattle.lexicon.specs.Readings.{readings_of}
use Rattle.chart.proofs.charts.same_count.Given as goal

abbrev pub invariant-loop-place : goal.invariant-loop-place
invariant-loop-place l = take l.place l.readings ≡ map (readings_of l.lexicon.live) (take l.place l.tokens)

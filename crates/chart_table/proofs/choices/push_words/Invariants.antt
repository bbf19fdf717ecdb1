use Rattle.std.proofs.Common.{◌≡◌, take, ◌++◌}
use Rattle.chart_table.specs.Choices.{words_of}
use Rattle.chart_table.proofs.choices.push_words.Given as goal

abbrev pub invariant-loop-reading : goal.invariant-loop-reading
invariant-loop-reading l = l.out ≡ l.fn.out ++ words_of (take l.reading-index l.readings)

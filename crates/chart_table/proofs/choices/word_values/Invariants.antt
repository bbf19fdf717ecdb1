use Rattle.std.proofs.Common.{◌≡◌, take, ◌∷◌}
use Rattle.std.specs.List.{flat_map}
use Rattle.chart_table.specs.Choices.{words_of, no_word}
use Rattle.chart_table.proofs.choices.word_values.Given as goal

abbrev pub invariant-loop-readings : goal.invariant-loop-readings
invariant-loop-readings l = l.values ≡ no_word ∷ flat_map words_of (take l.readings-index l.setting.readings)

use Rattle.std.proofs.Common.{◌≡◌, take, map}
use Rattle.serde_json.specs.View.{view}
use Rattle.wire_json.specs.Values.{word_value}
use Rattle.wire_json.proofs.values.words_value.Given as goal

-- the values so far are those of the words so far
abbrev pub invariant-loop-word : goal.invariant-loop-word
invariant-loop-word l = map view l.items.items ≡ map word_value (take l.word-index l.words)

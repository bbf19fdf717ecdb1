use Rattle.std.proofs.Common.{◌≡◌, take, map}
use Rattle.serde_json.specs.View.{view}
use Rattle.wire_json.specs.Values.{sentence_value}
use Rattle.wire_json.proofs.statuses.sentences_value.Given as goal

-- the values so far are those of the sentences so far
abbrev pub invariant-loop-sentence : goal.invariant-loop-sentence
invariant-loop-sentence l = map view l.items.items ≡ map sentence_value (take l.sentence-index l.sentences)

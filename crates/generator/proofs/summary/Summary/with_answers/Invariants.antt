use Rattle.std.proofs.Common.{◌≡◌, drop}
use Rattle.generator.specs.Summary as summing
use Rattle.generator.proofs.summary.Summary.with_answers.Given as goal

abbrev pub invariant-loop-sentence : goal.invariant-loop-sentence
invariant-loop-sentence l = summing.with_answers l.summary (drop l.sentence-index l.sentences) ≡ summing.with_answers l.fn.self l.sentences

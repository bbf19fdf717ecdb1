use Rattle.std.proofs.Common.{◌≡◌, take, length, sum_by}
use Rattle.word_examples.proofs.plain.sentence_count.Given as goal

abbrev pub invariant-loop-entry : goal.invariant-loop-entry
invariant-loop-entry l = l.count ≡ sum_by (λ e. length e.sentences) (take l.entry-index l.entry-items)

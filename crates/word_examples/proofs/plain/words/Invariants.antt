use Rattle.std.proofs.Common.{◌≡◌, take, map}
use Rattle.word_examples.proofs.plain.words.Given as goal

abbrev pub invariant-loop-entry : goal.invariant-loop-entry
invariant-loop-entry l = l.words ≡ map (λ e. e.word) (take l.entry-index l.entry-items)

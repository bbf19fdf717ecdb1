use Rattle.std.proofs.Common.{◌≡◌, drop}
use Rattle.lexicon.specs.Words.{reground_refusal}
use Rattle.lexicon.proofs.words.refuse_words.Given as goal

-- the words that are left decide
abbrev pub invariant-loop-word : goal.invariant-loop-word
invariant-loop-word l = reground_refusal (drop l.word-index l.words) l.terminals ≡ reground_refusal l.words l.terminals

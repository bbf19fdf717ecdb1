use Rattle.std.proofs.Common.{◌≡◌, ◌+◌, drop}
use Rattle.owl_tokens.specs.Tokens.{is_word_byte, run}
use Rattle.owl_tokens.proofs.tokens.word_length.Given as goal

-- what is left decides
abbrev pub invariant-loop-n : goal.invariant-loop-n
invariant-loop-n l = l.n + run is_word_byte (drop l.n l.bytes) ≡ run is_word_byte l.bytes

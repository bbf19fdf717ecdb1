use Rattle.std.proofs.Common.{◌≡◌, drop}
use Rattle.owl_import.specs.Sentences.{first_word}
use Rattle.owl_import.proofs.sentences.first_word.Given as goal

-- the tokens that are left decide
abbrev pub invariant-loop-token : goal.invariant-loop-token
invariant-loop-token l = first_word l.words.live (drop l.token-index l.token-items) ≡ first_word l.words.live l.tokens

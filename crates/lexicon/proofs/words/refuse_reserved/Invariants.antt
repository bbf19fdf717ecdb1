use Rattle.std.proofs.Common.{◌≡◌, drop}
use Rattle.lexicon.specs.Words.{first_reserved}
use Rattle.lexicon.proofs.words.refuse_reserved.Given as goal

-- the texts that are left decide
abbrev pub invariant-loop-text : goal.invariant-loop-text
invariant-loop-text l = first_reserved l.terminals (drop l.text-index l.text-items) ≡ first_reserved l.terminals l.texts

use Rattle.std.proofs.Common.{◌≡◌, drop}
use Rattle.lexicon.specs.Words.{others, first_taken}
use Rattle.lexicon.proofs.words.Lexicon.refuse_taken.Given as goal

-- the texts that are left decide
abbrev pub invariant-loop-text : goal.invariant-loop-text
invariant-loop-text l = first_taken (others l.self.live l.id) (drop l.text-index l.text-items) ≡ first_taken (others l.self.live l.id) l.texts

use Rattle.std.proofs.Common.{◌≡◌, take}
use Rattle.std.specs.Prelude.{map}
use Rattle.owl_words.specs.Bases.{respelled}
use Rattle.owl_words.proofs.attempts.letters.Given as goal

-- the digits so far as letters
abbrev pub invariant-loop-digit : goal.invariant-loop-digit
invariant-loop-digit l = l.made.items ≡ map respelled (take l.digit-index l.digits)

use Rattle.std.proofs.Common.{◌≡◌, take}
use Rattle.wiki_parts.proofs.parsing.told_code.Given as goal

-- the numbers so far
abbrev pub invariant-loop-number : goal.invariant-loop-number
invariant-loop-number l = l.told ≡ take l.number-index l.number-items

use Rattle.std.proofs.Common.{◌≡◌, take}
use Rattle.wiki_parts.proofs.told.told_texts.Given as goal

-- the texts so far
abbrev pub invariant-loop-text : goal.invariant-loop-text
invariant-loop-text l = l.told.items ≡ take l.text-index l.text-items

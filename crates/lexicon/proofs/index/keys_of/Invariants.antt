use Rattle.std.proofs.Common.{◌≡◌, All, map, take, string_bytes}
use Rattle.wiki_base.specs.Text.{IsText}
use Rattle.lexicon.proofs.index.keys_of.Given as goal

-- the texts so far are keys, and each is a text
abbrev pub invariant-loop-text : goal.invariant-loop-text
invariant-loop-text l = (map string_bytes l.keys.items ≡ take l.text-index l.text-items) × All IsText (take l.text-index l.text-items)

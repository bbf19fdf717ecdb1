use Rattle.std.proofs.Common.{◌≡◌, take}
use Rattle.owl_import.proofs.words.word_line.Given as goal

-- the forms so far are copied
abbrev pub invariant-loop-text : goal.invariant-loop-text
invariant-loop-text l = l.forms ≡ take l.text-index l.text-items

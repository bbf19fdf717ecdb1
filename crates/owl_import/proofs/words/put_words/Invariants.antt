use Rattle.std.proofs.Common.{◌≡◌, ◌++◌, take}
use Rattle.std.specs.List.{flat_map}
use Rattle.owl_import.specs.Words.{word_line}
use Rattle.owl_import.proofs.words.put_words.Given as goal

-- the lines of the words so far are there
abbrev pub invariant-loop-place : goal.invariant-loop-place
invariant-loop-place l = l.out ≡ l.initial.out ++ flat_map word_line (take l.place l.words.live)

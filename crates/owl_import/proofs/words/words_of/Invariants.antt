use Rattle.std.proofs.Common.{take}
use Rattle.owl_import.specs.Words.{AddsWords, no_words}
use Rattle.owl_import.proofs.words.words_of.Given as goal

-- the entities so far have words
abbrev pub invariant-loop-place : goal.invariant-loop-place
invariant-loop-place l = AddsWords (no_words l.grammar) (take l.place l.entities) l.naming

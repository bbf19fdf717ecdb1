use Rattle.std.proofs.Common.{◌≡◌, ◌++◌, drop}
use Rattle.std.specs.Prelude.{map}
use Rattle.lexicon.specs.declared.words.TheConstants.{MOST_WORDS}
use Rattle.owl_import.specs.Words.{enclosed}
use Rattle.owl_import.proofs.calling.wordless.Given as goal

-- the IRIs so far, and those that are left
abbrev pub invariant-loop-place : goal.invariant-loop-place
invariant-loop-place l = l.iris ++ map enclosed (drop l.place l.entities) ≡ map enclosed (drop MOST_WORDS l.entities)

use Rattle.std.proofs.Common.{◌≡◌, false, ◌++◌, drop}
use Rattle.std.specs.Prelude.{map}
use Rattle.owl_words.specs.Bases.{respelled, tidied}
use Rattle.owl_words.proofs.BaseLemmas.{tidied_left}
use Rattle.owl_words.proofs.bases.tidied.Given as goal

-- what was made so far, and what is left tidied
abbrev pub invariant-loop-c : goal.invariant-loop-c
invariant-loop-c l = tidied false (map respelled l.cs) ≡ l.made.items ++ tidied_left l.begun l.due (map respelled (drop l.c-index l.cs))

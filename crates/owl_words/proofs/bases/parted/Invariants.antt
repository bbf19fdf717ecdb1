use Rattle.std.proofs.Common.{◌≡◌, false, ◌++◌, drop}
use Rattle.owl_words.specs.Bases.{parted}
use Rattle.owl_words.proofs.bases.parted.Given as goal

-- what was made so far, and what is left parted
abbrev pub invariant-loop-c : goal.invariant-loop-c
invariant-loop-c l = parted false l.part ≡ l.made.items ++ parted l.after_small (drop l.c-index l.part)

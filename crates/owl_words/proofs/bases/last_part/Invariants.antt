use Rattle.std.proofs.Common.{◌≡◌, false, ◌++◌, drop}
use Rattle.std.specs.List.{list_any}
use Rattle.owl_words.specs.Bases.{is_separator, last_part}
use Rattle.owl_words.proofs.bases.last_part.Given as goal

-- what was kept so far has no separator, and its last part with what is left is that of the whole
abbrev pub invariant-loop-c : goal.invariant-loop-c
invariant-loop-c l = record {
  no_separator : list_any is_separator l.part.items ≡ false;
  left_decides : last_part l.cs ≡ last_part (l.part.items ++ drop l.c-index l.cs);
}

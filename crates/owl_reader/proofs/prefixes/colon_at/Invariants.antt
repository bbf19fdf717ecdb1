use Rattle.std.proofs.Common.{◌≡◌, drop}
use Rattle.owl_reader.specs.Names.{colon_at}
use Rattle.owl_reader.proofs.prefixes.colon_at.Given as goal

-- what is left decides
abbrev pub invariant-loop-n : goal.invariant-loop-n
invariant-loop-n l = colon_at l.n (drop l.n l.word) ≡ colon_at 0 l.word

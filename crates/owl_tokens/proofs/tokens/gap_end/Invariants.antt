use Rattle.std.proofs.Common.{◌≡◌, drop, false}
use Rattle.owl_tokens.specs.Tokens.{gap_end}
use Rattle.owl_tokens.proofs.tokens.gap_end.Given as goal

-- what is left decides
abbrev pub invariant-loop-at : goal.invariant-loop-at
invariant-loop-at l = gap_end l.at l.in_comment (drop l.at l.text) ≡ gap_end l.from false (drop l.from l.text)

use Rattle.std.proofs.Common.{◌≡◌, drop, false}
use Rattle.owl_tokens.specs.Tokens.{closing_quote}
use Rattle.owl_tokens.proofs.tokens.closing_quote.Given as goal

-- what is left decides
abbrev pub invariant-loop-n : goal.invariant-loop-n
invariant-loop-n l = closing_quote l.n l.after_backslash (drop l.n l.bytes) ≡ closing_quote 0 false l.bytes

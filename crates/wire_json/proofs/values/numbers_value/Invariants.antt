use Rattle.std.proofs.Common.{◌≡◌, ℕ, take, map}
use Rattle.serde_json.specs.Data.{number, unsigned}
use Rattle.serde_json.specs.View.{view}
use Rattle.wire_json.proofs.values.numbers_value.Given as goal

-- the values so far are those of the numbers so far
abbrev pub invariant-loop-number : goal.invariant-loop-number
invariant-loop-number l = map view l.items.items ≡ map (λ (n : ℕ). number (unsigned n)) (take l.number-index l.numbers)

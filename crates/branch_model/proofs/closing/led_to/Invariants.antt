use Rattle.std.proofs.Common.{◌≡◌, ℕ, true, Contains, take}
use Rattle.owl_eval.specs.Pairs.{is_paired}
use Rattle.branch_model.specs.Related.{Reaches, IsTransitive, Knows}
use Rattle.branch_model.proofs.closing.led_to.Given as goal

abbrev pub invariant-loop-pair : goal.invariant-loop-pair
invariant-loop-pair l =
    Knows l.known l.made.items
    × IsTransitive (λ a b. is_paired l.made.items a b ≡ true)
    × ((a b : ℕ) → is_paired l.made.items a b ≡ true → Reaches (λ x y. Contains l.pairs (x, y)) a b)
    × ((a b : ℕ) → Contains (take l.pair-index l.pairs) (a, b) → is_paired l.made.items a b ≡ true)

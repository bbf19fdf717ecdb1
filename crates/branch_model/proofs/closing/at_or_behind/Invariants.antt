use Rattle.std.proofs.Common.{◌≡◌, ◌==◌, ◌||◌, ℕ, take}
use Rattle.std.specs.List.{list_any}
use Rattle.owl_eval.specs.Pairs.{is_paired}
use Rattle.branch_model.proofs.closing.at_or_behind.Given as goal

abbrev pub invariant-loop-pair : goal.invariant-loop-pair
invariant-loop-pair l = (a : ℕ) → list_any (λ x. x == a) l.made.items ≡ (l.element == a) || is_paired (take l.pair-index l.pairs) l.element a

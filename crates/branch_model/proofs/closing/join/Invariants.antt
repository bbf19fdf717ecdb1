use Rattle.std.proofs.Common.{◌≡◌, ◌==◌, ◌&&◌, ◌||◌, ℕ, take}
use Rattle.std.specs.List.{list_any}
use Rattle.owl_eval.specs.Pairs.{is_paired}
use Rattle.branch_model.specs.Related.{Knows}
use Rattle.branch_model.proofs.closing.join.Given as goal

abbrev pub invariant-loop-end : goal.invariant-loop-end
invariant-loop-end l =
    Knows l.known l.made.items
    × ((a b : ℕ) → is_paired l.made.items a b ≡ is_paired l.initial.made.items a b || ((l.start == a) && list_any (λ x. x == b) (take l.end-index l.ends)))

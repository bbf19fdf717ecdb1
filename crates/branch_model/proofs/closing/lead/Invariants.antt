use Rattle.std.proofs.Common.{◌≡◌, ◌==◌, ◌&&◌, ◌||◌, ℕ, take}
use Rattle.std.specs.List.{list_any}
use Rattle.owl_eval.specs.Pairs.{is_paired}
use Rattle.branch_model.specs.Related.{Knows}
use Rattle.branch_model.proofs.closing.lead.Given as goal

abbrev pub invariant-loop-start : goal.invariant-loop-start
invariant-loop-start l =
    Knows l.known l.made.items
    × ((a b : ℕ) → is_paired l.made.items a b
    ≡ is_paired l.initial.made.items a b || (list_any (λ x. x == a) (take l.start-index l.start-items) && list_any (λ x. x == b) l.ends.items))

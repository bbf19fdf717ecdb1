use Rattle.std.proofs.Common.{◌≡◌, ℕ, ◌<◌, ◌≤◌, true, length, get_or, take}
use Rattle.std.specs.List.{list_all}
use Rattle.owl_eval.specs.Pairs.{is_paired}
use Rattle.owl_eval.proofs.relation.reaches_ends.Given as goal

abbrev pub invariant-loop-other : goal.invariant-loop-other
invariant-loop-other l = record {
  within : l.place ≤ length l.own;
  passed : (k j : ℕ) (d e : ℕ × ℕ) → k < l.place → l.other-index ≤ j → j < length l.others → (get_or l.own k d).1 < (get_or l.others j e).1;
  told : list_all (λ q. is_paired l.own l.first q.1) (take l.other-index l.others) ≡ true;
}

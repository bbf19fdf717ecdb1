use Rattle.std.proofs.Common.{◌≡◌, ℕ, ◌≤◌, List, map, take, unwrap_or, count_by}
use Rattle.std.specs.Bool.{nat_eq}
use Rattle.std.specs.Cmp.Lexicographic.{pointwise}
use Rattle.indexmap.specs.IndexMap.{get_by}
use Rattle.codeco_text.specs.Names.{same_bytes}
use Rattle.codeco_early_faults.proofs.categories.has_crowd.Given as goal

abbrev pub invariant-loop-pair : goal.invariant-loop-pair
invariant-loop-pair l = record {
  counted : (w : List ℕ) → unwrap_or (get_by (λ k. pointwise nat_eq w k.now) l.counts) 0
      ≡ count_by (same_bytes w) (map (λ p. p.0.now) (take l.pair-index l.pairs));
  few : (w : List ℕ) → count_by (same_bytes w) (map (λ p. p.0.now) (take l.pair-index l.pairs)) ≤ 16;
}

use Rattle.std.proofs.Common.{◌≡◌, ℕ, ◌+◌, ◌-◌, ◌<◌, ◌≤◌, List, ◌∷◌, drop, length, get_or, sym, ap, ◌∙◌, arith}
use Rattle.wiki_base.proofs.ListLaws.{drop_get_or}
use Rattle.ace_to_owl.specs.Moves.{moved_by, gathered}
use Rattle.ace_to_owl.specs.Mapping.{joined}
use Rattle.ace_to_owl.proofs.GroupLemmas.{joined_more}
use Rattle.ace_to_owl.proofs.components.joins.Goals as goal

-- the group before what is left
group_before : (gs : List (List ℕ)) (left : ℕ) (g : List ℕ) → 0 < left → left ≤ length gs → g ≡ get_or gs (left - 1) g → drop (left - 1) gs ≡ g ∷ drop left gs
group_before gs left g positive within is =
    let step : (left - 1) + 1 ≡ left = omega arith in
    drop_get_or gs (left - 1) g (omega arith) is ∙ ap (λ n. g ∷ drop n gs) step

pub loop-left-preserved : goal.loop-left-preserved
loop-left-preserved c = record {
  joins = λ q p.
      joined_more (moved_by c.loop-left.moves) (moved_by c.join.new.moves) c.index-groups-left.result (drop c.loop-left.left c.args.groups.now)
      c.loop-left.invariant.joins
      (λ n. c.in_ok-join.ensures n ∙ ap (λ g. gathered (moved_by c.loop-left.moves) g n) c.as_slice.ensures) q p
      ∙ ap (λ gs. joined gs q p) (sym (group_before c.args.groups.now c.loop-left.left c.index-groups-left.result c.loop-left-test.true
      c.loop-left.invariant.within c.index-groups-left.is));
  within = omega (arith, c.loop-left.invariant.within);
}

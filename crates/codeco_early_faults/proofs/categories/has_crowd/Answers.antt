use Rattle.std.proofs.Common.{◌≡◌, ◌≤◌, ℕ, [], List, Bor, map, take, unwrap_or, get_or, sym, ap, subst, ◌∙◌}
use Rattle.codeco_early_faults.proofs.Crowd.{times, times_more, crowd_found, no_crowd, counted_more, few_more}
use Rattle.codeco_early_faults.proofs.categories.has_crowd.Goals as goal

abbrev name_of : Bor (List ℕ) × Bor (List ℕ) → List ℕ
name_of p = p.0.now

abbrev none : Bor (List ℕ) × Bor (List ℕ)
none = (record { ref_ptr = (0, 0); now = [] }, record { ref_ptr = (0, 0); now = [] })

pub returns-then-count-ge-MOST_OF_A_CATEGORY : goal.returns-then-count-ge-MOST_OF_A_CATEGORY
returns-then-count-ge-MOST_OF_A_CATEGORY c =
    let ps = c.args.pairs.now in
    let i = c.loop-pair.pair-index in
    let w = name_of (get_or ps i none) in
    let count : c.unwrap_or-count.result ≡ times w (map name_of (take i ps)) =
    c.unwrap_or-count.ensures ∙ ap (λ o. unwrap_or o 0) (c.copied.ensures ∙ c.get.ensures.value) ∙ c.loop-pair.invariant.counted w in
    crowd_found name_of ps i none c.loop-pair-test.true (subst (λ n. 16 ≤ n) count c.if-count-ge-MOST_OF_A_CATEGORY.true)

pub loop-pair-preserved : goal.loop-pair-preserved
loop-pair-preserved c =
    let ps = c.args.pairs.now in
    let i = c.loop-pair.pair-index in
    let v = name_of (get_or ps i none) in
    let names = map name_of (take i ps) in
    let n = c.unwrap_or-count.result in
    let count : n ≡ times v names = c.unwrap_or-count.ensures ∙ ap (λ o. unwrap_or o 0) (c.copied.ensures ∙ c.get.ensures.value)
    ∙ c.loop-pair.invariant.counted v in
    record {
      counted = λ w. counted_more w v names n _ _ (c.in_ok-insert.ensures.updates.0 (record { ref_ptr = (0, 0); now = w })) count
          (c.loop-pair.invariant.counted w) ∙ sym (times_more name_of ps i none c.loop-pair-test.true w);
      few = λ w. subst (λ k. k ≤ 16) (sym (times_more name_of ps i none c.loop-pair-test.true w))
          (few_more w v names n count c.if-count-ge-MOST_OF_A_CATEGORY.false (c.loop-pair.invariant.few w));
    }

pub returns : goal.returns
returns c = no_crowd name_of c.args.pairs.now c.loop-pair.pair-index c.loop-pair-test.false c.loop-pair.invariant.few

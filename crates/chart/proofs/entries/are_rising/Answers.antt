use Rattle.std.proofs.Common.{◌≡◌, rules, sym, ◌∙◌}
use Rattle.std.specs.declared.cmp.Ordering.TheVariants.{Less}
use Rattle.chart.proofs.MenuLemmas.{rising_turn}
use Rattle.chart.proofs.entries.are_rising.Goals as goal

pub loop-place-preserved : goal.loop-place-preserved
loop-place-preserved c =
    let less : c.order.result ≡ Less = search rules in
    rising_turn c.args.entries.now c.loop-place.place _ _ c.loop-place-test.true (sym c.order.ensures ∙ less) c.loop-place.invariant

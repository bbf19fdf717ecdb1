use Rattle.std.proofs.Common.{sym, ap, ◌∙◌}
use Rattle.chart.proofs.OfferLoops.{chosen_more, chosen_less}
use Rattle.chart.proofs.offers.add_chosen.Goals as goal
use Rattle.chart.proofs.offers.add_chosen.Goals.{then-is_told+in_ok-push, else-is_told}

pub loop-number-preserved : goal.loop-number-preserved
loop-number-preserved c =
    let i = c.loop-number.number in
    elim c.if-is_told.branch [
      | then-is_told+in_ok-push w ↦
          chosen_more c.args.forms.now c.args.told.now i _ c.loop-number.found.items c.if-is_told.found.items _ c.loop-number-test.true
          (sym c.is_told.ensures ∙ w.if-is_told.true) (ap (λ v. v.items) w.found-is ∙ w.in_ok-push.ensures.items) c.loop-number.invariant
      | else-is_told w ↦
          chosen_less c.args.forms.now c.args.told.now i c.loop-number.found.items c.if-is_told.found.items _ c.loop-number-test.true
          (sym c.is_told.ensures ∙ w.if-is_told.false) (ap (λ v. v.items) w.found-is) c.loop-number.invariant
    ]

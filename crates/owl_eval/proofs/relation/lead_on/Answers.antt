use Rattle.std.proofs.Common.{◌-◌, subst, sym, arith}
use Rattle.owl_eval.specs.Leads.{IsLed}
use Rattle.owl_eval.proofs.Spanning.{at_places, place_more, all_led}
use Rattle.owl_eval.proofs.relation.lead_on.Goals as goal
use Rattle.owl_eval.proofs.relation.lead_on.Goals.{else-not-is_as_before-via-then-not-is_as_before+else-not-leads_on_from, else-not-is_as_before-via-else-not-is_as_before}

pub loop-place-preserved : goal.loop-place-preserved
loop-place-preserved c =
    let ps = c.args.pairs.now in
    let i = c.loop-place.place in
    place_more (λ p. IsLed ps p.0) ps i (0, 0) c.loop-place-test.true c.loop-place.invariant
    (elim c.else-not-is_as_before.branch [
      | else-not-is_as_before-via-then-not-is_as_before+else-not-leads_on_from w ↦ w.leads_on_from.ensures.leads w.if-not-leads_on_from.false
      | else-not-is_as_before-via-else-not-is_as_before w ↦
          let before = c.is_as_before.ensures w.if-not-is_as_before.false (0, 0) in
          subst (IsLed ps) before.1 (c.loop-place.invariant (i - 1) (0, 0) (omega (arith, before.0)))
    ])

pub returns : goal.returns
returns c =
    let ps = c.args.pairs.now in
    sym (all_led ps (λ x y xy.
    at_places (λ u v. IsLed ps u) ps (λ k d lt. c.loop-place.invariant k d (omega (arith, lt, c.loop-place-test.false))) x y xy y xy))

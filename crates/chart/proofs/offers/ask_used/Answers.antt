use Rattle.std.proofs.Common.{map, sym, ap, ◌∙◌}
use Rattle.derivations.specs.Entries.{shown, forms_in}
use Rattle.chart.specs.Offers.{is_used, form_asks}
use Rattle.chart.proofs.OfferLoops.{used_step, asks_step, added_if, kept_if}
use Rattle.chart.proofs.offers.ask_used.Goals as goal
use Rattle.chart.proofs.offers.ask_used.Goals.{then-has+in_ok-ask_forms, else-has}

pub loop-place-preserved : goal.loop-place-preserved
loop-place-preserved c =
    let w = c.get-word.result.now in
    let rs = c.args.used.now in
    let ws = c.args.lexicon.now.live in
    let i = c.loop-place.place in
    let old = map shown c.loop-place.forms.items in
    let new = map shown c.if-has.forms.items in
    let b = is_used rs w.id in
    let asks = form_asks w.forms.kind w.id 0 w.forms.texts in
    elim c.if-has.branch [
      | then-has+in_ok-ask_forms x ↦
          let has = sym c.has.ensures ∙ x.if-has.true in
          record {
            forms = used_step rs ws i w old new _ c.get-word.ensures
                (added_if b old new (forms_in w) has (ap (λ v. map shown v.items) x.forms-is ∙ x.in_ok-ask_forms.ensures.forms)) c.loop-place.invariant.forms;
            asks = asks_step rs ws i w c.loop-place.asks c.if-has.asks _ c.get-word.ensures
                (added_if b c.loop-place.asks c.if-has.asks asks has (x.asks-is ∙ x.in_ok-ask_forms.ensures.asks)) c.loop-place.invariant.asks;
          }
      | else-has x ↦
          let lacks = sym c.has.ensures ∙ x.if-has.false in
          record {
            forms = used_step rs ws i w old new _ c.get-word.ensures (kept_if b old new (forms_in w) lacks (ap (λ v. map shown v.items) x.forms-is))
                c.loop-place.invariant.forms;
            asks = asks_step rs ws i w c.loop-place.asks c.if-has.asks _ c.get-word.ensures
                (kept_if b c.loop-place.asks c.if-has.asks asks lacks x.asks-is) c.loop-place.invariant.asks;
          }
    ]

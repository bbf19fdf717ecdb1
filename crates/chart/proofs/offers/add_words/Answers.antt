use Rattle.std.proofs.Common.{map, sym, ap, ◌∙◌}
use Rattle.derivations.specs.Entries.{shown}
use Rattle.chart.specs.Offers.{is_used, told_forms}
use Rattle.chart.proofs.OfferLoops.{new_step, added_unless, kept_unless}
use Rattle.chart.proofs.offers.add_words.Goals as goal
use Rattle.chart.proofs.offers.add_words.Goals.{then-not-has+in_ok-add_forms, else-not-has}

pub loop-place-preserved : goal.loop-place-preserved
loop-place-preserved c =
    let w = c.get-word.result.now in
    let old = map shown c.loop-place.found.items in
    let new = map shown c.if-not-has.found.items in
    let b = is_used c.args.used.now w.id in
    let piece = told_forms c.args.told.now w.forms.kind 0 w.forms.texts in
    elim c.if-not-has.branch [
      | then-not-has+in_ok-add_forms x ↦
          new_step c.args.used.now c.args.told.now c.args.lexicon.now.live c.loop-place.place w old new _ c.get-word.ensures
          (added_unless b old new piece (sym c.has.ensures ∙ x.if-not-has.true)
          (ap (λ v. map shown v.items) x.found-is ∙ x.in_ok-add_forms.ensures)) c.loop-place.invariant
      | else-not-has x ↦
          new_step c.args.used.now c.args.told.now c.args.lexicon.now.live c.loop-place.place w old new _ c.get-word.ensures
          (kept_unless b old new piece (sym c.has.ensures ∙ x.if-not-has.false) (ap (λ v. map shown v.items) x.found-is)) c.loop-place.invariant
    ]

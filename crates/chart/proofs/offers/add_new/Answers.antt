use Rattle.std.proofs.Common.{[], ◌∷◌, Some, inr, map, length, sym, ap, ◌∙◌, subst}
use Rattle.std.proofs.lemmas.Result.{on_ok_weaker}
use Rattle.lexicon.specs.Readings.{readings_of}
use Rattle.derivations.specs.Entries.{shown}
use Rattle.chart.specs.Offers.{with_last, Told}
use Rattle.chart.proofs.OfferLoops.{new_found}
use Rattle.chart.proofs.offers.add_new.Goals as goal

pub returns-clause-found : goal.returns-clause-found
returns-clause-found c =
    let g = c.args.before.now.grammar.now in
    let t = c.args.before.now.tokens.now in
    let live = c.args.lexicon.now.live in
    let word = c.get-word.result.now in
    let told = c.as_slice.result.now in
    let tells = subst (Told (with_last g t (map (readings_of live) t) (120 ∷ []) c.readings-last.result) (length t) c.class_asks.result)
    (sym c.as_slice.ensures) c.in_ok-told.ensures in
    on_ok_weaker c.add_words.result (λ is. inr
    (new_found g live t (120 ∷ []) c.args.before.now.used.now c.readings-last.result c.class_asks.result told c.in-Some.place word c.as_str.result.now
    (map shown c.args.found.now.items) (map shown c.add_words.new.found.items) c.requires.used c.get-word.ensures
    (c.get-form.ensures ∙ ap Some (sym c.as_str.ensures.value)) (c.in-Some.ensures.new.1 word c.get-word.ensures) c.readings-last.ensures
    c.class_asks.ensures tells is)) c.add_words.ensures

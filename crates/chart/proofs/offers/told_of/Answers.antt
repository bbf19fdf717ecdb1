use Rattle.std.proofs.Common.{◌≡◌, ℕ, [], ◌∷◌, ◌++◌, Bool, map, length, Some, ap, ◌∙◌, subst, IsTrue, ◌↔◌}
use Rattle.std.specs.Prelude.{slice_get, IfOk}
use Rattle.lexicon.specs.Readings.{readings_of}
use Rattle.derivation_trees.specs.Derives.{text_category}
use Rattle.derivation_trees.specs.Settings.{Setting}
use Rattle.chart_table.specs.declared.asks.Ask.{Ask}
use Rattle.chart_table.specs.Asks.{AskLeads}
use Rattle.chart.specs.Offers.{with_last, Told}
use Rattle.chart.proofs.OfferLoops.{both_ok, told_all}
use Rattle.chart.proofs.offers.told_of.Goals as goal

pub returns : goal.returns
returns c =
    let g = c.args.before.now.grammar.now in
    let t = c.args.before.now.tokens.now in
    let rs = map (readings_of c.args.lexicon.now.live) t in
    let asks = c.args.asks.now in
    let s : Setting = record { grammar = c.grammar.result.now; tokens = c.as_slice-2.result.now; readings = c.as_slice-3.result.now } in
    let longer : c.as_slice-2.result.now ≡ t ++ (120 ∷ []) ∷ [] =
    c.as_slice-2.ensures ∙ c.in_ok-push.ensures.ok ∙ ap (λ l. l ++ c.in_ok-from_str.field-0 ∷ []) c.in_ok-longer.ensures
    ∙ ap (λ x. t ++ x ∷ []) c.in_ok-from_str.ensures in
    let read : c.as_slice-3.result.now ≡ rs ++ c.args.last ∷ [] =
    c.as_slice-3.ensures ∙ c.in_ok-push-2.ensures.ok
    ∙ ap (λ l. l ++ c.args.last ∷ [])
    (c.from_vec-readings.ensures ∙ c.in_ok-readings_of.ensures ∙ ap (map (readings_of c.args.lexicon.now.live)) c.as_slice.ensures) in
    let is : s ≡ with_last g t rs (120 ∷ []) c.args.last =
    ap (λ x. record { grammar = x; tokens = c.as_slice-2.result.now; readings = c.as_slice-3.result.now }) c.grammar.ensures.grammar
    ∙ ap (λ x. record { grammar = g; tokens = x; readings = c.as_slice-3.result.now }) longer
    ∙ ap (λ x. record { grammar = g; tokens = t ++ (120 ∷ []) ∷ []; readings = x }) read in
    let made : IfOk c.may_follow.result (Told s c.len.result asks) =
    both_ok c.may_follow.result (λ bs. length bs ≡ length asks)
    (λ bs. (j : ℕ) (a : Ask) (b : Bool) → slice_get asks j ≡ Some a → slice_get bs j ≡ Some b
    → IsTrue b ↔ AskLeads s c.len.result a text_category (record { place = 0; list = [] })) (Told s c.len.result asks)
    (λ bs long each. told_all s c.len.result asks bs long each) c.may_follow.ensures.count c.may_follow.ensures.each in
    subst (λ n. IfOk c.may_follow.result (Told (with_last g t rs (120 ∷ []) c.args.last) n asks)) c.len.ensures
    (subst (λ x. IfOk c.may_follow.result (Told x c.len.result asks)) is made)

use Rattle.std.proofs.Common.{◌+◌, ◌&&◌, ◌||◌, false, drop, sym, ap, ◌∙◌}
use Rattle.std.specs.Prelude.{slice_index_or}
use Rattle.std.specs.Str.{bytes_eq}
use Rattle.chart.specs.Offers as offers
use Rattle.chart.proofs.OfferLoops.{follows_turn}
use Rattle.chart.proofs.offers.some_follows.Goals as goal

pub loop-number-preserved : goal.loop-number-preserved
loop-number-preserved c =
    let text = c.args.text.now in
    let ts = c.args.terminals.now in
    let told = c.args.told.now in
    let i = c.loop-number.number in
    let t = c.index-terminals-number.result in
    let rest = offers.some_follows text (drop (i + 1) ts) (drop (i + 1) told) in
    sym (follows_turn text ts told i t c.loop-number-test.true
    ∙ ap (λ x. (bytes_eq text x && slice_index_or told i false) || rest) (sym c.index-terminals-number.is)
    ∙ ap (λ b. b || rest) (sym c.follows_as.ensures ∙ c.if-follows_as.false)) ∙ c.loop-number.invariant

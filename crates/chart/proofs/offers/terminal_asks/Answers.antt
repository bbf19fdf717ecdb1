use Rattle.std.proofs.Common.{[], ◌∷◌, refl}
use Rattle.chart_table.specs.declared.asks.Ask.TheVariants as ask
use Rattle.chart.specs.Offers as offers
use Rattle.chart.proofs.OfferLoops.{turn}
use Rattle.chart.proofs.offers.terminal_asks.Goals as goal

pub loop-number-preserved : goal.loop-number-preserved
loop-number-preserved c =
    turn offers.terminal_asks c.args.terminals.now c.loop-number.number [] c.loop-number.asks (ask.Terminal c.loop-number.number ∷ []) c.push.new.self _
    c.loop-number-test.true refl c.in_ok-push.ensures.ok c.loop-number.invariant

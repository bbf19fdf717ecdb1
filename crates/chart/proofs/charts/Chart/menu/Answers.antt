use Rattle.std.proofs.Common.{◌∙◌}
use Rattle.lexicon.specs.Readings.{readings_of}
use Rattle.chart.proofs.ChartLemmas.{readings_kept}
use Rattle.chart.proofs.charts.Chart.menu.Goals as goal

pub menu_for-requires-clause-readings : goal.menu_for-requires-clause-readings
menu_for-requires-clause-readings c =
    c.as_slice.ensures ∙ readings_kept c.args.grammar.now c.self.inside.grammar (readings_of c.args.lexicon.now.live) c.args.self.now c.self.inside.tokens
    c.self.inside.readings c.self.view_is c.requires.kept

pub menu_for-requires-clause-few : goal.menu_for-requires-clause-few
menu_for-requires-clause-few c = c.self.invariant.few

use Rattle.std.proofs.Common.{◌≡◌, []}
use Rattle.lexicon.specs.Readings.{readings_of}
use Rattle.chart.proofs.ChartLemmas.{kept_on}
use Rattle.bench.proofs.menu.started.Goals as goal

pub returns : goal.returns
returns c = kept_on c.args.grammar.now (readings_of c.args.lexicon.now.live) c.in_ok-chart.chart [] c.in_ok-chart.ensures

use Rattle.std.proofs.Common.{◌++◌, ◌∷◌, []}
use Rattle.lexicon.specs.Readings.{readings_of}
use Rattle.chart.proofs.ChartLemmas.{kept_on}
use Rattle.chart_examples.proofs.cases.taken.Goals as goal

pub returns : goal.returns
returns c =
    kept_on c.args.grammar.now (readings_of c.args.lexicon.now.live) c.advance.new.self (c.args.chart.now.tokens ++ c.args.token.now ∷ [])
    c.in_ok-begins.ensures.added

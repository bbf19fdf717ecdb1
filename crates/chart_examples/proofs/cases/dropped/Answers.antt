use Rattle.chart.proofs.DropLemmas.{dropped_kept}
use Rattle.chart_examples.proofs.cases.dropped.Goals as goal

pub returns : goal.returns
returns c = dropped_kept c.args.grammar.now c.args.lexicon.now c.args.chart.now c.back.new.self c.back.result c.requires c.back.ensures.none c.back.ensures.last

use Rattle.lexicon.specs.Readings.{readings_of}
use Rattle.chart.proofs.ChartLemmas.{chart_grown}
use Rattle.chart.proofs.charts.Chart.advance.Goals as goal

pub invariant_of-self-2 : goal.invariant_of-self-2
invariant_of-self-2 c =
    chart_grown c.args.grammar.now c.self.inside.grammar (readings_of c.args.lexicon.now.live) c.args.self.now c.self.inside.tokens c.self.inside.readings
    c.args.token.now c.in_ok-tokens.tokens c.in_ok-step.step.readings c.self.inside.plans.value c.self.inside.derives c.push.new.self
    c.in_ok-step.step.derives c.self.view_is
    c.requires.kept c.requires.room c.self.invariant c.in_ok-tokens.ensures c.in_ok-step.ensures.readings c.in_ok-push.ensures.ok
    c.in_ok-step.ensures.derives

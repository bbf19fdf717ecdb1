use Rattle.std.proofs.Common.{◌∙◌, ◌++◌, ◌∷◌, [], ap, subst, sym}
use Rattle.chart_table.specs.Choices.{EachPlan}
use Rattle.chart.proofs.ChartLemmas.{chart_none}
use Rattle.chart.proofs.charts.Chart.new.Goals as goal

pub invariant_of-result : goal.invariant_of-result
invariant_of-result c =
    let kept = c.in_ok-kept.kept in
    let plans = c.in_ok-plans.plans.value in
    let planned : EachPlan kept kept.rules plans =
    subst (EachPlan kept kept.rules) (sym c.in_ok-plans.ensures.ok) (subst (λ g. EachPlan g g.rules c.in_ok-plans_of.field-0) c.grammar.ensures.grammar
    c.in_ok-plans_of.ensures) in
    chart_none kept plans c.new-2.result c.new-3.result c.push.new.self c.in_ok-yes.yes c.new-2.ensures c.new-3.ensures
    (c.in_ok-push.ensures.ok ∙ ap (λ l. l ++ c.in_ok-yes.yes ∷ []) c.new-derives.ensures) planned c.in_ok-yes.ensures

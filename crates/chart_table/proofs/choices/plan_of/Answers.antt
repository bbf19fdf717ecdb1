use Rattle.chart_table.proofs.choices.plan_of.Goals as goal

pub returns-clause-plan : goal.returns-clause-plan
returns-clause-plan c =
    let plan = c.in_ok-plan.ensures.plan in
    record {
      terms = plan.terms;
      places = plan.places;
      own = plan.own;
      variables = plan.variables;
      written = plan.written;
      counts = plan.counts;
      features = plan.features;
    }

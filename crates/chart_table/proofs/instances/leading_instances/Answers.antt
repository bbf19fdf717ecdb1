use Rattle.std.proofs.Common.{subst, ap, ◌∙◌}
use Rattle.chart_table.specs.Instances.{HasStates}
use Rattle.chart_table.specs.Steps.{starting}
use Rattle.chart_table.proofs.IdleLemmas.{idle_instances}
use Rattle.chart_table.proofs.InstanceLemmas.{instances_found}
use Rattle.chart_table.proofs.instances.leading_instances.Goals as goal

pub returns-then-not-may_start-clause-instances : goal.returns-then-not-may_start-clause-instances
returns-then-not-may_start-clause-instances c =
    idle_instances c.args.setting.now c.args.rule.now c.args.start.now.known.now (record { place = c.args.start.now.place; list = c.args.start.now.list.now })
    c.as_slice.result.now
    c.may_start.result _ c.as_slice.ensures c.may_start.ensures c.if-not-may_start.true

pub returns-clause-instances : goal.returns-clause-instances
returns-clause-instances c =
    let s = c.args.setting.now in
    instances_found s c.args.rule.now c.args.start.now.known.now c.args.start.now.place c.args.start.now.list.now c.in_ok-starts.starts c.in_ok-states.states
    c.new-instances.result
    c.push_states.new.out (c.in_ok-starts.ensures
    ∙ ap (λ f. starting c.args.start.now.known.now f c.args.start.now.place c.args.start.now.list.now) c.as_slice-2.ensures)
    c.in_ok-states.ensures.last (subst (λ xs. HasStates s c.args.rule.now xs c.new-instances.result c.push_states.new.out) c.as_slice-3.ensures
    c.in_ok-push_states.ensures)

use Rattle.std.proofs.Common.{◌<◌, ◌++◌, ◌∷◌, [], length, map, refl, ap, ◌∙◌, sym, subst, arith, rules}
use Rattle.std.proofs.lemmas.Option.{slice_get_within}
use Rattle.derivation_trees.proofs.StandLemmas.{not_sub}
use Rattle.chart_trees.specs.Paths.{path_of, start_of}
use Rattle.chart_trees.proofs.EarliestLemmas.{steps_left}
use Rattle.chart_trees.specs.Ways.{AreReached, AreStepsOf}
use Rattle.chart_trees.specs.Outcomes.{HasEnded}
use Rattle.codeco_terms.specs.declared.elements.Element.TheVariants.{Sub}
use Rattle.derivation_trees.specs.Derives.{At}
use Rattle.chart_trees.proofs.WayLemmas.{steps_none, steps_turn, steps_done, reached_first, reached_turn, reached_done}
use Rattle.chart_trees.proofs.OutcomeLemmas.{instance_trees, no_trees, trees_none, trees_turn, trees_done, rule_trees, other_trees, up_to_none, up_to_turn, up_to_done}
use Rattle.chart_trees.proofs.TableLemmas.{rule_numbered, row_found, tables_more, row_new, plain_pushed, steps_same, child_pushed}
use Rattle.chart_table.proofs.PlanLemmas.{plan_there, plan_is}
use Rattle.chart_trees.proofs.table.+best.Goals as goal

pub best_of-returns-in-Some-clause-row : goal.best_of-returns-in-Some-clause-row
best_of-returns-in-Some-clause-row t c =
    row_found c.args.scene.now.setting.now c.args.tables.now c.as_slice.result.now c.in-Some.number c.args.asked c.args.place c.args.list c.args.list
    c.as_slice.ensures refl c.requires.tables c.in-Some.ensures

pub best_of-returns-clause-tables : goal.best_of-returns-clause-tables
best_of-returns-clause-tables t c =
    tables_more c.args.scene.now.setting.now c.all_outcomes.new.tables c.push_new_row.new.rows
    (record { asked = c.args.asked; place = c.args.place; list = c.args.list; outcomes = c.in_ok-outcomes.outcomes }) c.args.list
    c.in_ok-number.ensures.rows refl c.in_ok-outcomes.ensures.tables c.in_ok-outcomes.ensures.best

pub best_of-returns-clause-row : goal.best_of-returns-clause-row
best_of-returns-clause-row t c =
    row_new c.args.scene.now.setting.now c.all_outcomes.new.tables.rows c.push_new_row.new.rows
    (record { asked = c.args.asked; place = c.args.place; list = c.args.list; outcomes = c.in_ok-outcomes.outcomes }) c.in_ok-number.number
    c.args.list c.in_ok-number.ensures.rows c.in_ok-number.ensures.number refl
    c.in_ok-outcomes.ensures.best

pub all_outcomes-loop-index-init : goal.all_outcomes-loop-index-init
all_outcomes-loop-index-init t c = record {
  tables = c.requires.tables;
  number = omega arith;
  trees = up_to_none c.args.scene.now.setting.now c.args.sought.now.asked.now (start_of c.args.sought.now) c.new-out.result c.new-out.ensures;
}

pub all_outcomes-loop-index-preserved : goal.all_outcomes-loop-index-preserved
all_outcomes-loop-index-preserved t c = record {
  tables = c.in_ok-push_named.ensures.tables;
  number = omega (arith, c.in_ok-number.ensures, c.loop-index.invariant.number);
  trees = up_to_turn c.args.scene.now.setting.now c.args.sought.now.asked.now (start_of c.args.sought.now) c.loop-index.index c.loop-index.number
      c.loop-index.out c.push_named.new.out c.loop-index.invariant.number c.loop-index.invariant.trees c.in_ok-push_named.ensures.trees;
}

pub all_outcomes-returns-clause-best : goal.all_outcomes-returns-clause-best
all_outcomes-returns-clause-best t c =
    up_to_done c.args.scene.now.setting.now c.args.sought.now.asked.now (start_of c.args.sought.now) c.loop-index.index c.as_slice-rules.result.now
    c.loop-index.out (search rules) c.loop-index-test.false c.loop-index.invariant.trees

pub all_outcomes-plan_for-plan-requires : goal.all_outcomes-plan_for-plan-requires
all_outcomes-plan_for-plan-requires t c =
    plan_there c.args.scene.now.setting.now c.as_slice-rules.result.now c.loop-index.index c.args.scene.now.plans.now (search rules) c.loop-index-test.true
    c.requires.plans

pub all_outcomes-push_named-requires : goal.all_outcomes-push_named-requires
all_outcomes-push_named-requires t c = (
  omega arith,
  (
    c.requires.limited,
    (
      c.requires.plans,
      (
        c.loop-index.invariant.tables,
        (
          rule_numbered c.args.scene.now.setting.now c.as_slice-rules.result.now c.loop-index.index c.loop-index.number
              c.index-rules-index.result (search rules) c.loop-index.invariant.number c.loop-index-test.true c.index-rules-index.is,
          plan_is c.args.scene.now.setting.now c.as_slice-rules.result.now c.loop-index.index c.index-rules-index.result c.plan_for-plan.result.now
              c.args.scene.now.plans.now
              (search rules) c.loop-index-test.true c.index-rules-index.is c.plan_for-plan.ensures c.requires.plans,
        ),
      ),
    ),
  ),
)

pub push_named-returns-clause-trees : goal.push_named-returns-clause-trees
push_named-returns-clause-trees t c =
    other_trees c.args.scene.now.setting.now c.args.sought.now.asked.now (start_of c.args.sought.now) c.args.trial.now.number c.args.trial.now.rule.now
    c.args.out.now
    c.requires.has c.if-trial-sought.false

pub push_rule-returns-clause-trees : goal.push_rule-returns-clause-trees
push_rule-returns-clause-trees t c =
    rule_trees c.args.scene.now.setting.now c.args.sought.now.asked.now c.args.sought.now.place c.args.sought.now.list.now c.args.trial.now.number
    c.args.trial.now.rule.now c.as_slice.result.now c.in_ok-instances.instances
    c.as_slice-2.result.now c.args.out.now c.push_instances.new.out c.requires.has c.as_slice.ensures c.as_slice-2.ensures
    c.in_ok-instances.ensures.instances c.in_ok-push_instances.ensures.trees

pub push_instances-loop-values-init : goal.push_instances-loop-values-init
push_instances-loop-values-init t c = record {
  tables = c.requires.tables;
  trees = trees_none c.args.scene.now.setting.now c.args.sought.now.asked.now (start_of c.args.sought.now) c.args.trial.now.number c.args.out.now;
}

pub push_instances-loop-values-preserved : goal.push_instances-loop-values-preserved
push_instances-loop-values-preserved t c = record {
  tables = c.in_ok-push_instance.ensures.tables;
  trees = trees_turn c.args.scene.now.setting.now c.args.sought.now.asked.now (start_of c.args.sought.now) c.args.trial.now.number c.args.instances.now
      c.loop-values.values-index c.values-item.result c.as_slice.result.now c.args.out.now c.loop-values.out c.push_instance.new.out c.loop-values-test.true
      c.values-item.is c.as_slice.ensures c.loop-values.invariant.trees c.in_ok-push_instance.ensures.trees;
}

pub push_instances-returns-clause-trees : goal.push_instances-returns-clause-trees
push_instances-returns-clause-trees t c =
    trees_done c.args.scene.now.setting.now c.args.sought.now.asked.now (start_of c.args.sought.now) c.args.trial.now.number c.args.instances.now
    c.loop-values.values-index c.args.out.now c.loop-values.out c.loop-values-test.false c.loop-values.invariant.trees

pub push_instance-returns-then-not-branch-clause-trees : goal.push_instance-returns-then-not-branch-clause-trees
push_instance-returns-then-not-branch-clause-trees t c =
    no_trees c.args.scene.now.setting.now c.args.sought.now.asked.now (start_of c.args.sought.now) c.args.trial.now.number c.args.trial.now.rule.now
    c.args.values.now
    c.args.out.now c.requires.has (sym c.in_ok-may_begin.ensures ∙ c.if-not-branch.true)

pub push_instance-returns-clause-trees : goal.push_instance-returns-clause-trees
push_instance-returns-clause-trees t c =
    let s = c.args.scene.now.setting.now in
    let at : At = start_of c.args.sought.now in
    let reached = subst (λ f. AreReached s c.args.values.now c.args.trial.now.rule.now.body f (map path_of c.in_ok-paths.paths)) c.in_ok-first.ensures
    (subst (λ b. AreReached s c.args.values.now b (path_of c.in_ok-first.first) (map path_of c.in_ok-paths.paths)) c.as_slice.ensures
    c.in_ok-paths.ensures.paths) in
    instance_trees s c.args.sought.now.asked.now at c.args.trial.now.number c.args.trial.now.rule.now c.args.values.now c.in_ok-paths.paths c.args.out.now
    c.push_ended.new.out c.requires.has
    (sym c.in_ok-may_begin.ensures ∙ c.if-not-branch.false) reached
    (subst (λ l. HasEnded c.args.trial.now.number c.args.trial.now.rule.now c.args.values.now c.args.sought.now.list.now l c.args.out.now c.push_ended.new.out)
    c.as_slice-2.ensures
    c.in_ok-push_ended.ensures)

pub run_all-loop-element-init : goal.run_all-loop-element-init
run_all-loop-element-init t c = record {
  tables = c.requires.tables;
  paths = subst (λ l. AreReached c.args.scene.now.setting.now c.args.values.now [] (path_of c.args.first) (map path_of l))
      (sym (c.in_ok-push.ensures.ok ∙ ap (λ l. l ++ c.args.first ∷ []) c.new-paths.ensures))
      (reached_first c.args.scene.now.setting.now c.args.values.now (path_of c.args.first));
}

pub run_all-loop-element-preserved : goal.run_all-loop-element-preserved
run_all-loop-element-preserved t c = record {
  tables = c.in_ok-paths.ensures.tables;
  paths = reached_turn c.args.scene.now.setting.now c.args.values.now c.args.body.now c.loop-element.element-index c.element-item.result (path_of c.args.first)
      c.loop-element.paths c.as_slice.result.now (map path_of c.in_ok-paths.paths) c.loop-element-test.true c.element-item.is c.as_slice.ensures
      c.loop-element.invariant.paths c.in_ok-paths.ensures.steps;
}

pub run_all-returns-clause-paths : goal.run_all-returns-clause-paths
run_all-returns-clause-paths t c =
    reached_done c.args.scene.now.setting.now c.args.values.now c.args.body.now c.loop-element.element-index (path_of c.args.first)
    (map path_of c.loop-element.paths)
    c.loop-element-test.false c.loop-element.invariant.paths

pub step_all-loop-path-init : goal.step_all-loop-path-init
step_all-loop-path-init t c = record {
  tables = c.requires.tables;
  steps = subst (λ l. AreStepsOf c.args.scene.now.setting.now c.args.values.now c.args.element.now [] (map path_of l)) (sym c.new-out.ensures)
      (steps_none c.args.scene.now.setting.now c.args.values.now c.args.element.now);
}

pub step_all-loop-path-preserved : goal.step_all-loop-path-preserved
step_all-loop-path-preserved t c = record {
  tables = c.in_ok-push_steps.ensures.tables;
  steps = steps_turn c.args.scene.now.setting.now c.args.values.now c.args.element.now c.args.paths.now c.loop-path.path-index c.path-item.result
      (map path_of c.loop-path.out) (map path_of c.push_steps.new.out) c.loop-path-test.true c.path-item.is c.loop-path.invariant.steps
      c.in_ok-push_steps.ensures.steps;
}

pub step_all-returns-clause-steps : goal.step_all-returns-clause-steps
step_all-returns-clause-steps t c =
    steps_left c.args.scene.now.setting.now c.args.values.now c.args.element.now (map path_of c.args.paths.now) c.loop-path.out c.in_ok-left.left
    (steps_done c.args.scene.now.setting.now c.args.values.now c.args.element.now c.args.paths.now c.loop-path.path-index (map path_of c.loop-path.out)
    c.loop-path-test.false c.loop-path.invariant.steps) c.in_ok-left.ensures

pub push_steps-returns-in_ok-push_child-in-Sub : goal.push_steps-returns-in_ok-push_child-in-Sub
push_steps-returns-in_ok-push_child-in-Sub t c = record {
  tables = c.in_ok-push_child-in-Sub.ensures.tables;
  steps = steps_same c.args.scene.now.setting.now c.args.values.now c.args.element.now (Sub c.in-Sub.category) (path_of c.args.path.now)
      (map path_of c.args.out.now)
      (map path_of c.push_child.new.out) c.in-Sub.is c.in_ok-push_child-in-Sub.ensures.steps;
}

pub push_steps-returns-in_ok-push_passed-in_default : goal.push_steps-returns-in_ok-push_passed-in_default
push_steps-returns-in_ok-push_passed-in_default t c =
    record {
      tables = c.requires.tables;
      steps = plain_pushed c.args.scene.now.setting.now c.args.values.now c.args.element.now (path_of c.args.path.now) (map path_of c.args.out.now)
          (map path_of c.push_passed.new.out) (not_sub c.args.element.now c.in_default.not-Sub) c.in_ok-push_passed-in_default.ensures;
    }

pub push_child-returns-clause-steps : goal.push_child-returns-clause-steps
push_child-returns-clause-steps t c =
    child_pushed c.args.scene.now.setting.now c.args.values.now c.args.category.now c.args.path.now c.best_of.new.tables.rows c.as_slice.result.now
    c.in_ok-number.number
    c.in_ok-asked.asked c.in_ok-list.list (map path_of c.args.out.now) (map path_of c.push_best.new.out) c.as_slice.ensures c.in_ok-asked.ensures
    c.in_ok-list.ensures c.in_ok-number.ensures.row c.in_ok-push_best.ensures

pub push_child-push_best-requires : goal.push_child-push_best-requires
push_child-push_best-requires t c =
    let has = c.in_ok-number.ensures.row in
    subst (λ l. c.in_ok-number.number < length l) (sym c.as_slice.ensures) (slice_get_within c.best_of.new.tables.rows c.in_ok-number.number has.row has.is)

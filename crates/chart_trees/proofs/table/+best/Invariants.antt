use Rattle.std.proofs.Common.{◌≡◌, take, map, ◌+◌, ◌*◌}
use Rattle.chart_trees.specs.Paths.{path_of, start_of}
use Rattle.chart_trees.specs.Ways.{AreReached, AreStepsOf}
use Rattle.chart_trees.specs.Outcomes.{HasTrees, IsOfInstances}
use Rattle.chart_trees.proofs.TreesUpTo.{HasTreesUpTo}
use Rattle.chart_trees.specs.Tables.{AreTables}
use Rattle.chart_trees.proofs.table.+best.Given as goal

abbrev pub decreases-best_of : goal.decreases-best_of
decreases-best_of l = 10 * l.scene.now.depth + 10

abbrev pub decreases-all_outcomes : goal.decreases-all_outcomes
decreases-all_outcomes l = 10 * l.scene.now.depth + 9

abbrev pub decreases-push_named : goal.decreases-push_named
decreases-push_named l = 10 * l.scene.now.depth + 8

abbrev pub decreases-push_rule : goal.decreases-push_rule
decreases-push_rule l = 10 * l.scene.now.depth + 7

abbrev pub decreases-push_instances : goal.decreases-push_instances
decreases-push_instances l = 10 * l.scene.now.depth + 6

abbrev pub decreases-push_instance : goal.decreases-push_instance
decreases-push_instance l = 10 * l.scene.now.depth + 5

abbrev pub decreases-run_all : goal.decreases-run_all
decreases-run_all l = 10 * l.scene.now.depth + 4

abbrev pub decreases-step_all : goal.decreases-step_all
decreases-step_all l = 10 * l.scene.now.depth + 3

abbrev pub decreases-push_steps : goal.decreases-push_steps
decreases-push_steps l = 10 * l.scene.now.depth + 2

abbrev pub decreases-push_child : goal.decreases-push_child
decreases-push_child l = 10 * l.scene.now.depth + 1

abbrev pub invariant-all_outcomes-loop-index : goal.invariant-all_outcomes-loop-index
invariant-all_outcomes-loop-index l =
    record {
      tables : AreTables l.scene.setting.now l.tables;
      number : l.number ≡ l.index + 1;
      trees : HasTreesUpTo l.scene.setting.now l.sought.asked.now (start_of l.sought) l.index l.out;
    }

abbrev pub invariant-push_instances-loop-values : goal.invariant-push_instances-loop-values
invariant-push_instances-loop-values l =
    record {
      tables : AreTables l.scene.setting.now l.tables;
      trees : HasTrees l.scene.setting.now l.sought.asked.now (start_of l.sought) (IsOfInstances l.trial.number (take l.values-index l.instances)) l.fn.out
          l.out;
    }

abbrev pub invariant-run_all-loop-element : goal.invariant-run_all-loop-element
invariant-run_all-loop-element l =
    record {
      tables : AreTables l.scene.setting.now l.tables;
      paths : AreReached l.scene.setting.now l.values (take l.element-index l.body) (path_of l.fn.first) (map path_of l.paths);
    }

abbrev pub invariant-step_all-loop-path : goal.invariant-step_all-loop-path
invariant-step_all-loop-path l =
    record {
      tables : AreTables l.scene.setting.now l.tables;
      steps : AreStepsOf l.scene.setting.now l.values l.element (map path_of (take l.path-index l.paths)) (map path_of l.out);
    }

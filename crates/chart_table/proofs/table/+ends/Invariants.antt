use Rattle.std.proofs.Common.{take, ◌+◌, ◌*◌}
use Rattle.chart_table.specs.Ends.{AreSteps}
use Rattle.chart_table.proofs.EndsUpTo.{HasEndsUpTo}
use Rattle.chart_table.specs.Cuts.{AreAfter, HasHeads, CutBefore, Among, Enters}
use Rattle.chart_table.proofs.CutsUpTo.{HasCutsUpTo}
use Rattle.chart_table.specs.Table.{AreRows}
use Rattle.chart_table.proofs.table.+ends.Given as goal

abbrev pub decreases-row_of : goal.decreases-row_of
decreases-row_of l = 8 * l.scene.now.depth + 8

abbrev pub decreases-category_ends : goal.decreases-category_ends
decreases-category_ends l = 8 * l.scene.now.depth + 7

abbrev pub decreases-push_named : goal.decreases-push_named
decreases-push_named l = 8 * l.trial.now.depth + 6

abbrev pub decreases-push_rule : goal.decreases-push_rule
decreases-push_rule l = 8 * l.trial.now.depth + 5

abbrev pub decreases-last_states : goal.decreases-last_states
decreases-last_states l = 8 * l.trial.now.depth + 4

abbrev pub decreases-next_states : goal.decreases-next_states
decreases-next_states l = 8 * l.trial.now.depth + 3

abbrev pub decreases-push_state : goal.decreases-push_state
decreases-push_state l = 8 * l.trial.now.depth + 2

abbrev pub decreases-push_category : goal.decreases-push_category
decreases-push_category l = 8 * l.trial.now.depth + 1

abbrev pub invariant-category_ends-loop-number : goal.invariant-category_ends-loop-number
invariant-category_ends-loop-number l =
    record {
      rows : AreRows l.scene.setting.now l.scene.aim.now l.rows;
      ends : HasEndsUpTo l.scene.setting.now l.name l.start.known.now (record { place = l.start.place; list = l.start.list.now }) l.number l.ends;
      cuts : HasCutsUpTo l.scene.setting.now l.scene.aim.now l.name l.start.known.now (record { place = l.start.place; list = l.start.list.now }) l.number
          l.cuts;
    }

abbrev pub invariant-last_states-loop-place : goal.invariant-last_states-loop-place
invariant-last_states-loop-place l =
    record {
      rows : AreRows l.trial.setting.now l.trial.aim.now l.rows;
      after : AreAfter l.trial.setting.now l.trial.rule.now l.fn.starts l.number l.place l.states;
      cuts : HasHeads l.trial.setting.now l.trial.rule.now
          (CutBefore l.trial.setting.now l.trial.aim.now l.trial.rule.now l.fn.starts l.place) l.fn.cuts l.cuts;
    }

abbrev pub invariant-next_states-loop-state : goal.invariant-next_states-loop-state
invariant-next_states-loop-state l =
    record {
      rows : AreRows l.trial.setting.now l.trial.aim.now l.rows;
      steps : AreSteps l.trial.setting.now l.trial.rule.now l.step.number l.step.element.now (take l.state-index l.states) l.news;
      cuts : HasHeads l.trial.setting.now l.trial.rule.now
          (λ j v. Among (Enters l.trial.setting.now l.trial.aim.now l.step.element.now j v) (take l.state-index l.states)) l.fn.cuts l.cuts;
    }

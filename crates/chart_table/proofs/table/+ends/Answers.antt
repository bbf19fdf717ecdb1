use Rattle.std.proofs.Common.{◌<◌, None, length, refl, ap, ◌∙◌, sym, subst, arith, rules}
use Rattle.std.proofs.lemmas.Option.{slice_get_within}
use Rattle.derivation_trees.proofs.StandLemmas.{not_sub}
use Rattle.chart_table.proofs.TurnLemmas.{steps_turn, steps_done}
use Rattle.chart_table.proofs.CutLemmas.{after_none}
use Rattle.chart_table.proofs.MergeLemmas.{steps_alike}
use Rattle.chart_table.proofs.HeadLemmas.{cut_before_none, heads_turn, heads_done, among_none, enters_not, all_after_last, rule_cut, cut_rule_turn, start_cuts}
use Rattle.chart_table.proofs.CycleLemmas.{
  row_found,
  row_returned,
  rows_returned,
  finished_same,
  start_steps,
  start_rules,
  rule_turn,
  rules_done,
  cuts_done,
  rule_pushed,
  after_turn,
  after_done,
  cut_turn,
  cut_done,
  plain_state,
  category_returned,
  category_cut,
  heads_same,
  not_category,
}
use Rattle.chart_table.specs.Steps.{starting}
use Rattle.chart_table.specs.Branches.{known_features}
use Rattle.chart_table.specs.Cuts.{HasHeads, Among, Halts, Enters}
use Rattle.codeco_terms.specs.declared.elements.Element.TheVariants.{Sub}
use Rattle.chart_table.proofs.PlanLemmas.{plan_there, plan_is, count_there, count_is, features_there, features_are}
use Rattle.chart_table.proofs.IdleLemmas.{idle_ends, idle_cuts}
use Rattle.chart_table.proofs.table.+ends.Goals as goal

pub category_ends-loop-number-init : goal.category_ends-loop-number-init
category_ends-loop-number-init t c = record {
  rows = c.requires.rows;
  ends = start_rules c.args.scene.now.setting.now c.args.name c.args.start.now.known.now
      (record { place = c.args.start.now.place; list = c.args.start.now.list.now }) c.new-ends.result
      c.new-ends.ensures;
  cuts = start_cuts c.args.scene.now.setting.now c.args.scene.now.aim.now c.args.name c.args.start.now.known.now
      (record { place = c.args.start.now.place; list = c.args.start.now.list.now }) c.args.cuts.now
      c.requires.none;
}

pub category_ends-loop-number-preserved : goal.category_ends-loop-number-preserved
category_ends-loop-number-preserved t c = record {
  rows = c.in_ok-push_named.ensures.rows;
  ends = rule_turn c.args.scene.now.setting.now c.args.name c.args.start.now.known.now
      (record { place = c.args.start.now.place; list = c.args.start.now.list.now }) c.as_slice-rules.result.now
      c.loop-number.number c.index-rules-number.result c.loop-number.ends c.push_named.new.ends (search rules) c.loop-number-test.true c.index-rules-number.is
      c.loop-number.invariant.ends c.in_ok-push_named.ensures.ends;
  cuts = cut_rule_turn c.args.scene.now.setting.now c.args.scene.now.aim.now c.args.name c.args.start.now.known.now
      (record { place = c.args.start.now.place; list = c.args.start.now.list.now })
      c.as_slice-rules.result.now c.loop-number.number c.index-rules-number.result c.loop-number.cuts c.push_named.new.cuts (search rules)
      c.loop-number-test.true c.index-rules-number.is c.loop-number.invariant.cuts c.in_ok-push_named.ensures.cuts;
}

pub category_ends-returns-clause-ends : goal.category_ends-returns-clause-ends
category_ends-returns-clause-ends t c =
    rules_done c.args.scene.now.setting.now c.args.name c.args.start.now.known.now (record { place = c.args.start.now.place; list = c.args.start.now.list.now })
    c.as_slice-rules.result.now
    c.loop-number.number c.loop-number.ends (search rules) c.loop-number-test.false (omega arith) c.loop-number.invariant.ends

pub category_ends-returns-clause-cuts : goal.category_ends-returns-clause-cuts
category_ends-returns-clause-cuts t c =
    cuts_done c.args.scene.now.setting.now c.args.scene.now.aim.now c.args.name c.args.start.now.known.now
    (record { place = c.args.start.now.place; list = c.args.start.now.list.now })
    c.as_slice-rules.result.now c.loop-number.number c.loop-number.cuts (search rules) c.loop-number-test.false (omega arith) c.loop-number.invariant.cuts

pub row_of-returns-in-Some-clause-row : goal.row_of-returns-in-Some-clause-row
row_of-returns-in-Some-clause-row t c =
    row_found c.args.scene.now.setting.now c.args.scene.now.aim.now c.args.rows.now c.as_slice.result.now c.in-Some.number c.args.name c.args.known
    c.as_slice-2.result.now
    c.args.place c.args.list c.args.list c.as_slice.ensures c.as_slice-2.ensures refl c.requires.rows c.in-Some.ensures

pub row_of-returns-clause-rows : goal.row_of-returns-clause-rows
row_of-returns-clause-rows t c =
    rows_returned c.args.scene.now.setting.now c.args.scene.now.aim.now c.category_ends.new.rows c.push.new.self
    (record {
      name = c.args.name;
      known = c.args.known;
      place = c.args.place;
      list = c.args.list;
      ends = c.in_ok-ends.ends;
      cuts = c.category_ends.new.cuts;
      older = c.newest_at-2.result;
    }) c.as_slice-3.result.now c.args.list c.in_ok-number.ensures.rows c.as_slice-3.ensures refl c.in_ok-ends.ensures.rows c.in_ok-ends.ensures.ends
    c.in_ok-ends.ensures.cuts

pub row_of-returns-clause-row : goal.row_of-returns-clause-row
row_of-returns-clause-row t c =
    row_returned c.args.scene.now.setting.now c.args.scene.now.aim.now c.category_ends.new.rows c.push.new.self
    (record {
      name = c.args.name;
      known = c.args.known;
      place = c.args.place;
      list = c.args.list;
      ends = c.in_ok-ends.ends;
      cuts = c.category_ends.new.cuts;
      older = c.newest_at-2.result;
    }) c.in_ok-number.number c.as_slice-3.result.now c.args.list c.in_ok-number.ensures.rows c.in_ok-number.ensures.number
    c.as_slice-3.ensures refl c.in_ok-ends.ensures.ends c.in_ok-ends.ensures.cuts

pub push_rule-returns-clause-ends : goal.push_rule-returns-clause-ends
push_rule-returns-clause-ends t c =
    let s = c.args.trial.now.setting.now in
    rule_pushed s c.args.trial.now.rule.now c.args.start.now.known.now c.args.start.now.place c.args.start.now.list.now c.in_ok-starts.starts
    c.in_ok-states.states c.args.ends.now
    c.push_finished.new.out (c.in_ok-starts.ensures
    ∙ ap (λ f. starting c.args.start.now.known.now f c.args.start.now.place c.args.start.now.list.now) c.as_slice.ensures)
    (all_after_last s c.args.trial.now.rule.now c.in_ok-starts.starts c.in_ok-states.states c.in_ok-states.ensures.last)
    (finished_same s c.args.trial.now.rule.now c.args.start.now.list.now c.as_slice-3.result.now c.in_ok-states.states c.args.ends.now c.push_finished.new.out
    c.as_slice-3.ensures c.in_ok-push_finished.ensures)

pub push_rule-returns-clause-cuts : goal.push_rule-returns-clause-cuts
push_rule-returns-clause-cuts t c =
    let s = c.args.trial.now.setting.now in
    rule_cut s c.args.trial.now.aim.now c.args.trial.now.rule.now c.args.start.now.known.now c.args.start.now.place c.args.start.now.list.now
    c.in_ok-starts.starts c.in_ok-states.states c.args.cuts.now
    c.last_states.new.cuts c.push_cuts_here.new.cuts
    (c.in_ok-starts.ensures ∙ ap (λ f. starting c.args.start.now.known.now f c.args.start.now.place c.args.start.now.list.now) c.as_slice.ensures)
    c.in_ok-states.ensures.last
    c.in_ok-states.ensures.cuts (subst
    (λ xs. HasHeads s c.args.trial.now.rule.now (λ j v. Among (Halts c.args.trial.now.aim.now None j v) xs) c.last_states.new.cuts
    c.push_cuts_here.new.cuts)
    c.as_slice-2.ensures c.in_ok-push_cuts_here.ensures)

pub last_states-loop-place-init : goal.last_states-loop-place-init
last_states-loop-place-init t c = record {
  rows = c.requires.rows;
  after = after_none c.args.trial.now.setting.now c.args.trial.now.rule.now c.args.starts;
  cuts = cut_before_none c.args.trial.now.setting.now c.args.trial.now.aim.now c.args.trial.now.rule.now c.args.starts c.args.cuts.now;
}

pub last_states-loop-place-preserved : goal.last_states-loop-place-preserved
last_states-loop-place-preserved t c = record {
  rows = c.in_ok-states.ensures.rows;
  after = after_turn c.args.trial.now.setting.now c.args.trial.now.rule.now c.args.starts c.loop-place.number c.in_ok-number.number c.loop-place.place
      c.count_at.result
      c.as_slice-body.result.now c.index-body-place.result c.loop-place.states c.as_slice-in-loop-place.result.now c.in_ok-states.states c.as_slice-body.ensures
      c.as_slice-in-loop-place.ensures c.loop-place-test.true c.index-body-place.is c.loop-place.invariant.after c.in_ok-states.ensures.steps
      (count_is c.args.trial.now.setting.now c.args.trial.now.rule.now c.args.trial.now.plan.now c.as_slice-body.result.now c.loop-place.place
      c.index-body-place.result c.count_at.result
      c.requires.plan c.as_slice-body.ensures c.loop-place-test.true c.index-body-place.is c.count_at.ensures) c.in_ok-number.ensures;
  cuts = cut_turn c.args.trial.now.setting.now c.args.trial.now.aim.now c.args.trial.now.rule.now c.args.starts c.loop-place.number
      c.loop-place.place c.as_slice-body.result.now
      c.index-body-place.result c.loop-place.states c.as_slice.result.now c.as_slice-in-loop-place.result.now c.args.cuts.now c.loop-place.cuts
      c.push_cuts_here.new.cuts c.next_states.new.cuts c.as_slice-body.ensures c.as_slice.ensures c.as_slice-in-loop-place.ensures c.loop-place-test.true
      c.index-body-place.is c.loop-place.invariant.after c.loop-place.invariant.cuts c.in_ok-push_cuts_here.ensures c.in_ok-states.ensures.cuts;
}

pub last_states-returns-clause-last : goal.last_states-returns-clause-last
last_states-returns-clause-last t c =
    after_done c.args.trial.now.setting.now c.args.trial.now.rule.now c.args.starts c.loop-place.number c.loop-place.place c.as_slice-body.result.now
    c.loop-place.states
    c.as_slice-body.ensures c.loop-place-test.false (omega arith) c.loop-place.invariant.after

pub last_states-returns-clause-cuts : goal.last_states-returns-clause-cuts
last_states-returns-clause-cuts t c =
    cut_done c.args.trial.now.setting.now c.args.trial.now.aim.now c.args.trial.now.rule.now c.args.starts c.loop-place.place
    c.as_slice-body.result.now c.args.cuts.now c.loop-place.cuts
    c.as_slice-body.ensures c.loop-place-test.false (omega arith) c.loop-place.invariant.cuts

pub next_states-loop-state-init : goal.next_states-loop-state-init
next_states-loop-state-init t c = record {
  rows = c.requires.rows;
  steps = start_steps c.args.trial.now.setting.now c.args.trial.now.rule.now c.args.step.now.number c.args.step.now.element.now c.new-news.result
      c.new-news.ensures;
  cuts = among_none c.args.trial.now.setting.now c.args.trial.now.rule.now
      (Enters c.args.trial.now.setting.now c.args.trial.now.aim.now c.args.step.now.element.now) c.args.cuts.now;
}

pub next_states-loop-state-preserved : goal.next_states-loop-state-preserved
next_states-loop-state-preserved t c = record {
  rows = c.in_ok-push_state.ensures.rows;
  steps = steps_turn c.args.trial.now.setting.now c.args.trial.now.rule.now c.args.step.now.number c.args.step.now.element.now c.args.states.now
      c.loop-state.state-index c.state-item.result
      c.loop-state.news c.push_state.new.out c.loop-state-test.true c.state-item.is c.loop-state.invariant.steps c.in_ok-push_state.ensures.step;
  cuts = heads_turn c.args.trial.now.setting.now c.args.trial.now.rule.now
      (Enters c.args.trial.now.setting.now c.args.trial.now.aim.now c.args.step.now.element.now) c.args.states.now c.loop-state.state-index
      c.state-item.result c.args.cuts.now c.loop-state.cuts c.push_state.new.cuts c.loop-state-test.true c.state-item.is c.loop-state.invariant.cuts
      c.in_ok-push_state.ensures.cuts;
}

pub next_states-returns-clause-steps : goal.next_states-returns-clause-steps
next_states-returns-clause-steps t c =
    steps_alike c.args.trial.now.setting.now c.args.trial.now.rule.now c.args.step.now.number c.args.step.now.element.now c.args.states.now
    c.loop-state.news c.in_ok-news.news
    (steps_done c.args.trial.now.setting.now c.args.trial.now.rule.now c.args.step.now.number c.args.step.now.element.now c.args.states.now
    c.loop-state.news c.loop-state.state-index
    c.loop-state-test.false c.loop-state.invariant.steps) c.in_ok-news.ensures

pub next_states-returns-clause-cuts : goal.next_states-returns-clause-cuts
next_states-returns-clause-cuts t c =
    heads_done c.args.trial.now.setting.now c.args.trial.now.rule.now
    (Enters c.args.trial.now.setting.now c.args.trial.now.aim.now c.args.step.now.element.now) c.args.states.now c.loop-state.state-index
    c.args.cuts.now c.loop-state.cuts c.loop-state-test.false c.loop-state.invariant.cuts

pub push_state-returns-in_ok-push_plain-in_default : goal.push_state-returns-in_ok-push_plain-in_default
push_state-returns-in_ok-push_plain-in_default t c =
    let plain = not_sub c.args.step.now.element.now c.in_default.not-Sub in
    record {
      rows = c.requires.rows;
      step = plain_state c.args.trial.now.setting.now c.args.trial.now.rule.now c.args.trial.now.plan.now.terms c.args.trial.now.plan.now.places
          c.args.trial.now.plan.now.own c.args.step.now.number c.args.step.now.element.now
          c.args.state.now c.args.out.now c.push_plain.new.out c.requires.plan.terms c.requires.plan.places c.requires.plan.own plain
          c.in_ok-push_plain-in_default.ensures;
      cuts = enters_not c.args.trial.now.setting.now c.args.trial.now.aim.now c.args.trial.now.rule.now c.args.step.now.element.now c.args.state.now
          c.args.cuts.now
          (not_category c.args.step.now.element.now plain);
    }

pub push_category-returns-clause-step : goal.push_category-returns-clause-step
push_category-returns-clause-step t c =
    category_returned c.args.trial.now.setting.now c.args.trial.now.aim.now c.args.trial.now.rule.now c.args.number c.args.category.now
    c.args.state.now c.row_of.new.rows
    c.as_slice-3.result.now c.in_ok-row.row c.in_ok-known.known c.in_ok-list.list c.args.out.now c.push_row.new.out c.as_slice-3.ensures
    (c.in_ok-known.ensures ∙ ap (λ b. known_features b c.as_slice-2.result.now) c.as_slice.ensures
    ∙ ap (known_features c.args.state.now.binds) c.as_slice-2.ensures) c.in_ok-list.ensures c.in_ok-row.ensures.row c.in_ok-push_row.ensures

pub push_category-returns-clause-cuts : goal.push_category-returns-clause-cuts
push_category-returns-clause-cuts t c =
    category_cut c.args.trial.now.setting.now c.args.trial.now.aim.now c.args.trial.now.rule.now c.args.category.now c.args.state.now
    c.row_of.new.rows c.as_slice-4.result.now
    c.in_ok-row.row c.in_ok-known.known c.in_ok-list.list c.args.cuts.now c.push_row_cuts.new.cuts c.as_slice-4.ensures
    (c.in_ok-known.ensures ∙ ap (λ b. known_features b c.as_slice-2.result.now) c.as_slice.ensures
    ∙ ap (known_features c.args.state.now.binds) c.as_slice-2.ensures) c.in_ok-list.ensures c.in_ok-row.ensures.row c.in_ok-push_row_cuts.ensures

pub push_category-push_row-requires : goal.push_category-push_row-requires
push_category-push_row-requires t c =
    let has = c.in_ok-row.ensures.row in
    subst (λ l. c.in_ok-row.row < length l) (sym c.as_slice-3.ensures) (slice_get_within c.row_of.new.rows c.in_ok-row.row has.row has.is)

pub push_category-push_row_cuts-requires-clause-number : goal.push_category-push_row_cuts-requires-clause-number
push_category-push_row_cuts-requires-clause-number t c =
    let has = c.in_ok-row.ensures.row in
    subst (λ l. c.in_ok-row.row < length l) (sym c.as_slice-4.ensures) (slice_get_within c.row_of.new.rows c.in_ok-row.row has.row has.is)

pub push_rule-returns-then-not-may_go-clause-ends : goal.push_rule-returns-then-not-may_go-clause-ends
push_rule-returns-then-not-may_go-clause-ends t c =
    idle_ends c.args.trial.now.setting.now c.args.trial.now.aim.now c.args.trial.now.rule.now c.args.start.now.known.now
    (record { place = c.args.start.now.place; list = c.args.start.now.list.now }) c.args.ends.now
    (c.may_go.ensures c.if-not-may_go.true)

pub push_rule-returns-then-not-may_go-clause-cuts : goal.push_rule-returns-then-not-may_go-clause-cuts
push_rule-returns-then-not-may_go-clause-cuts t c =
    idle_cuts c.args.trial.now.setting.now c.args.trial.now.aim.now c.args.trial.now.rule.now c.args.start.now.known.now
    (record { place = c.args.start.now.place; list = c.args.start.now.list.now }) c.args.cuts.now
    (c.may_go.ensures c.if-not-may_go.true)

pub last_states-features_at-features-requires : goal.last_states-features_at-features-requires
last_states-features_at-features-requires t c =
    features_there c.args.trial.now.setting.now c.args.trial.now.rule.now c.args.trial.now.plan.now c.as_slice-body.result.now c.loop-place.place
    c.requires.plan c.as_slice-body.ensures
    c.loop-place-test.true

pub last_states-count_at-requires : goal.last_states-count_at-requires
last_states-count_at-requires t c =
    count_there c.args.trial.now.setting.now c.args.trial.now.rule.now c.args.trial.now.plan.now c.as_slice-body.result.now c.loop-place.place
    c.requires.plan c.as_slice-body.ensures
    c.loop-place-test.true

pub last_states-next_states-requires : goal.last_states-next_states-requires
last_states-next_states-requires t c = (
  omega arith,
  (
    c.loop-place.invariant.rows,
    (
      c.requires.plans,
      (
        c.requires.plan,
        features_are c.args.trial.now.setting.now c.args.trial.now.rule.now c.args.trial.now.plan.now c.as_slice-body.result.now c.loop-place.place
            c.index-body-place.result
            c.features_at-features.result.now c.requires.plan c.as_slice-body.ensures c.loop-place-test.true c.index-body-place.is
            c.features_at-features.ensures,
      ),
    ),
  ),
)

pub category_ends-plan_for-plan-requires : goal.category_ends-plan_for-plan-requires
category_ends-plan_for-plan-requires t c =
    plan_there c.args.scene.now.setting.now c.as_slice-rules.result.now c.loop-number.number c.args.scene.now.plans.now (search rules) c.loop-number-test.true
    c.requires.plans

pub category_ends-push_named-requires : goal.category_ends-push_named-requires
category_ends-push_named-requires t c = (
  omega arith,
  (
    c.loop-number.invariant.rows,
    (
      c.requires.plans,
      plan_is c.args.scene.now.setting.now c.as_slice-rules.result.now c.loop-number.number c.index-rules-number.result c.plan_for-plan.result.now
          c.args.scene.now.plans.now
          (search rules) c.loop-number-test.true c.index-rules-number.is c.plan_for-plan.ensures c.requires.plans,
    ),
  ),
)

pub push_state-returns-in_ok-push_category-in-Sub-clause-cuts : goal.push_state-returns-in_ok-push_category-in-Sub-clause-cuts
push_state-returns-in_ok-push_category-in-Sub-clause-cuts t c =
    heads_same c.args.trial.now.setting.now c.args.trial.now.aim.now c.args.trial.now.rule.now c.args.step.now.element.now (Sub c.in-Sub.category)
    c.args.state.now c.args.cuts.now
    c.push_category.new.cuts c.in-Sub.is c.in_ok-push_category-in-Sub.ensures.cuts

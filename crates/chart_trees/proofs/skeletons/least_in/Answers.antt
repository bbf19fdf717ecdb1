use Rattle.std.proofs.Common.{ap, sym, subst}
use Rattle.std.proofs.lemmas.Result.{IfOk-weaker}
use Rattle.std.proofs.lemmas.Option.{slice_get_within}
use Rattle.chart_table.specs.Choices.{EachPlan}
use Rattle.chart_trees.proofs.LeastLemmas.{told, best_in}
use Rattle.chart_trees.proofs.TableLemmas.{tables_none}
use Rattle.chart_trees.proofs.skeletons.least_in.Goals as goal

pub best_of-requires-clause-tables : goal.best_of-requires-clause-tables
best_of-requires-clause-tables c = tables_none c.args.setting.now _ c.new.ensures c.new-2.ensures

pub best_of-requires-clause-plans : goal.best_of-requires-clause-plans
best_of-requires-clause-plans c =
    let g = c.setting.inside.grammar.now in
    subst (λ h. EachPlan h h.rules c.as_slice.result.now) (ap (λ s. s.grammar) c.setting.view_is)
    (subst (EachPlan g g.rules) (sym c.as_slice.ensures) c.in_ok-plans.ensures)

pub get-row-requires : goal.get-row-requires
get-row-requires c =
    let has = c.in_ok-number.ensures.row in
    slice_get_within c.best_of.new.tables.rows c.in_ok-number.number has.row has.is

pub least_among-requires : goal.least_among-requires
least_among-requires c =
    best_in c.args.setting.now c.best_of.new.tables.rows c.in_ok-number.number c.text.result c.empty-list.result c.get-row.result.now c.as_slice-2.result.now
    c.text.ensures c.empty-list.ensures c.in_ok-number.ensures.row c.get-row.ensures c.as_slice-2.ensures

pub returns-clause-least : goal.returns-clause-least
returns-clause-least c =
    let best = best_in c.args.setting.now c.best_of.new.tables.rows c.in_ok-number.number c.text.result c.empty-list.result c.get-row.result.now
    c.as_slice-2.result.now c.text.ensures c.empty-list.ensures c.in_ok-number.ensures.row c.get-row.ensures c.as_slice-2.ensures in
    IfOk-weaker c.least_among.result _ _ (λ least of. (told c.args.setting.now c.as_slice-2.result.now least best of).some) c.least_among.ensures

pub returns-clause-none : goal.returns-clause-none
returns-clause-none c =
    let best = best_in c.args.setting.now c.best_of.new.tables.rows c.in_ok-number.number c.text.result c.empty-list.result c.get-row.result.now
    c.as_slice-2.result.now c.text.ensures c.empty-list.ensures c.in_ok-number.ensures.row c.get-row.ensures c.as_slice-2.ensures in
    IfOk-weaker c.least_among.result _ _ (λ least of. (told c.args.setting.now c.as_slice-2.result.now least best of).none) c.least_among.ensures

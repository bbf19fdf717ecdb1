use Rattle.std.proofs.Common.{subst}
use Rattle.chart_table.specs.Cuts.{HasCopies, IsTelling, within_binds}
use Rattle.chart_table.proofs.ToldLemmas.{telling_heads, copies_tell}
use Rattle.chart_table.proofs.told.push_one_within.Goals as goal

pub returns-clause-cuts : goal.returns-clause-cuts
returns-clause-cuts c =
    let cut = c.args.cut.now in
    copies_tell c.args.trial.now.setting.now c.args.trial.now.rule.now (within_binds c.args.category.now c.args.bound.now cut) cut.ask
    c.get.result.now.heads c.args.cuts.now
    c.push_copies.new.cuts
    (telling_heads c.args.trial.now.setting.now c.args.trial.now.rule.now c.args.category.now c.args.bound.now c.telling.new.told c.in_ok-number.number
    c.get.result.now cut.values
    c.in_ok-number.ensures.told (subst (IsTelling c.telling.new.told c.in_ok-number.number) c.as_slice.ensures c.in_ok-number.ensures.number) c.get.ensures)
    (subst (λ hs. HasCopies cut.ask hs c.args.cuts.now c.push_copies.new.cuts) c.as_slice-2.ensures c.in_ok-push_copies.ensures)

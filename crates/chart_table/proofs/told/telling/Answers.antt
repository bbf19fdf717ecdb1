use Rattle.std.proofs.Common.{◌∷◌, [], ◌++◌, sym, subst}
use Rattle.std.specs.Prelude.{All}
use Rattle.std.proofs.lemmas.List.Elements.{All-push}
use Rattle.chart_table.specs.Cuts.{IsTold, IsTelling}
use Rattle.chart_table.proofs.ToldLemmas.{telling_new}
use Rattle.chart_table.proofs.told.telling.Goals as goal

pub returns-clause-told : goal.returns-clause-told
returns-clause-told c =
    let P = IsTold c.args.trial.now.setting.now c.args.trial.now.rule.now c.args.category.now c.args.bound.now in
    subst (All P) (sym c.in_ok-number.ensures.told) (All-push P c.args.told.now c.in_ok-one.one c.requires.told c.in_ok-one.ensures.heads)

pub returns-clause-number : goal.returns-clause-number
returns-clause-number c =
    subst (λ ts. IsTelling ts c.in_ok-number.number c.args.values.now) (sym c.in_ok-number.ensures.told)
    (subst (λ n. IsTelling (c.args.told.now ++ c.in_ok-one.one ∷ []) n c.args.values.now) (sym c.in_ok-number.ensures.number)
    (telling_new c.args.told.now c.in_ok-one.one c.args.values.now c.in_ok-one.ensures.values))

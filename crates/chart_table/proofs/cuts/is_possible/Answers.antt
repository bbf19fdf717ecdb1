use Rattle.std.proofs.Common.{◌∙◌, ap, refl}
use Rattle.derivation_trees.specs.Instances.{is_instance}
use Rattle.chart_table.specs.Ends.{has_values}
use Rattle.chart_table.proofs.HeadLemmas.{guess_possible}
use Rattle.chart_table.proofs.cuts.is_possible.Goals as goal

pub returns-then-has_values : goal.returns-then-has_values
returns-then-has_values c =
    let s = c.args.trial.now.setting.now in
    let rule = c.args.trial.now.rule.now in
    let bound = c.args.bound.now in
    let is = c.is_instance.ensures ∙ ap (is_instance s rule) c.as_slice.ensures in
    let has = c.has_values.ensures ∙ ap (λ g. has_values g bound) c.as_slice-then-is_instance.ensures in
    (λ t. guess_possible s rule c.in_ok-guess.guess bound c.is_instance.result c.has_values.result is has c.if-is_instance.true c.if-has_values.true, λ p. refl)

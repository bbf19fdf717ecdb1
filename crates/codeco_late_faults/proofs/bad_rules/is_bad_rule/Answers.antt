use Rattle.std.proofs.Common.{◌∙◌, sym, rules}
use Rattle.codeco_late_faults.proofs.BadLemmas.{bad_others}
use Rattle.codeco_late_faults.proofs.bad_rules.is_bad_rule.Goals as goal

pub returns : goal.returns
returns c =
    bad_others c.args.table.now c.args.rule.now c.as_slice.result.now c.as_slice-2.result.now c.has_wrong_feats.result
    (sym c.has_double_feature.ensures ∙ c.if-has_double_feature.false) (search rules) (search rules) c.has_wrong_feats.ensures

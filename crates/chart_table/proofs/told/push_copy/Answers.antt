use Rattle.std.proofs.Common.{◌∙◌, subst}
use Rattle.chart_table.specs.Cuts.{HasCut}
use Rattle.chart_table.proofs.ToldLemmas.{copies_there, copies_added}
use Rattle.chart_table.proofs.told.push_copy.Goals as goal

pub returns-then-has_cut : goal.returns-then-has_cut
returns-then-has_cut c = copies_there c.args.number c.args.head.now c.args.cuts.now
    (subst (λ l. HasCut l c.args.number c.args.head.now.values) c.as_slice.ensures
    (subst (HasCut c.as_slice.result.now c.args.number) c.as_slice-2.ensures (c.has_cut.ensures c.if-has_cut.true)))

pub returns : goal.returns
returns c =
    copies_added c.args.number c.args.head.now c.in_ok-values.values c.args.cuts.now c.push_cut.new.cuts (c.in_ok-values.ensures ∙ c.as_slice-3.ensures)
    c.in_ok-push_cut.ensures

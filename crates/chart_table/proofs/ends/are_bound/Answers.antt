use Rattle.chart_table.proofs.MeetLemmas.{bound_more}
use Rattle.codeco_terms.specs.declared.values.Term.TheVariants.{Var}
use Rattle.std.proofs.Common.{get_or}
use Rattle.chart_table.proofs.ends.are_bound.Goals as goal

pub loop-number-preserved : goal.loop-number-preserved
loop-number-preserved c = λ choices.
    bound_more choices c.args.bound.now c.args.numbers.now c.loop-number.number-index 0 c.loop-number-test.true (c.loop-number.invariant choices)
    (c.is_bound.ensures c.if-not-is_bound.false (choices (Var (get_or c.args.numbers.now c.loop-number.number-index 0))))

use Rattle.std.proofs.Common.{length}
use Rattle.std.specs.Prelude.{◌==◌}
use Rattle.std.specs.List.{list_any}
use Rattle.std.proofs.lemmas.Result.{IfOk-weaker}
use Rattle.chart_table.proofs.SentenceLemmas.{answer_is, answer_count}
use Rattle.chart_table.proofs.sentences.may_follow.Goals as goal

pub returns-clause-count : goal.returns-clause-count
returns-clause-count c =
    IfOk-weaker c.follows.result _ _ (λ follows e. answer_count (λ j. list_any (λ x. x.ask == j) c.as_slice.result.now) (length c.args.asks.now) follows e)
    c.follows.ensures

pub returns-clause-each : goal.returns-clause-each
returns-clause-each c =
    IfOk-weaker c.follows.result _ _ (λ follows e. answer_is c.args.setting.now c.args.halt c.args.asks.now c.in_ok-row.row c.as_slice.result.now
    (length c.args.asks.now) follows c.in_ok-row.ensures c.as_slice.ensures e) c.follows.ensures

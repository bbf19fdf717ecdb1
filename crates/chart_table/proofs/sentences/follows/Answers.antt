use Rattle.std.specs.Prelude.{◌==◌}
use Rattle.std.specs.List.{list_any}
use Rattle.chart_table.proofs.SentenceLemmas.{follows_more}
use Rattle.chart_table.proofs.sentences.follows.Goals as goal

pub loop-number-preserved : goal.loop-number-preserved
loop-number-preserved c =
    follows_more (λ j. list_any (λ e. e.ask == j) c.args.cuts.now) c.loop-number.number c.has_ask.result c.loop-number.follows c.push.new.self
    c.loop-number.invariant c.has_ask.ensures c.in_ok-push.ensures.ok

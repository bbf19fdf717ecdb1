use Rattle.std.proofs.Common.{◌∷◌, [], refl}
use Rattle.chart_table.specs.declared.asks.Ask.TheVariants as ask
use Rattle.chart_table.proofs.SentenceLemmas.{told, begun}
use Rattle.chart_table.proofs.sentences.standing_of.Goals as goal

pub returns-clause-begins : goal.returns-clause-begins
returns-clause-begins c =
    begun c.args.setting.now c.token_count-count.result (ask.Any ∷ []) c.in_ok-row.row c.as_slice-2.result.now c.has_ask-begins.result refl
    c.token_count-count.ensures c.in_ok-row.ensures c.as_slice-2.ensures c.has_ask-begins.ensures

pub returns-clause-derives : goal.returns-clause-derives
returns-clause-derives c =
    told c.args.setting.now (record { halt = c.token_count-count.result; asks = ask.Any ∷ [] }) c.in_ok-row.row c.token_count-count.result c.as_slice.result.now
    c.some_ends_at-derives.result c.in_ok-row.ensures c.token_count-count.ensures c.as_slice.ensures c.some_ends_at-derives.ensures

use Rattle.chart_table.proofs.SentenceLemmas.{text_row_is}
use Rattle.chart_table.proofs.sentences.text_row.Goals as goal

pub returns : goal.returns
returns c =
    text_row_is c.args.setting.now c.args.aim.now c.row_of.new.rows c.in_ok-number.number c.remove.result c.new-known.result c.empty-list.result
    c.new-known.ensures c.empty-list.ensures c.in_ok-number.ensures.row c.remove.ensures.item

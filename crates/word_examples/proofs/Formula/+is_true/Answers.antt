use Rattle.std.proofs.Common.{rules}
use Rattle.word_examples.proofs.FormulaLaws.{is_true-And}
use Rattle.word_examples.proofs.Formula.+is_true.Goals as goal

pub loop-member-init : goal.loop-member-init
loop-member-init t c = search (rules, c.in-And.is, is_true-And, c.as_slice-member-items.ensures)

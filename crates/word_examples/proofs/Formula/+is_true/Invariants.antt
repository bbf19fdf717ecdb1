use Rattle.std.proofs.Common.{◌≡◌, drop}
use Rattle.std.specs.List.{list_all}
use Rattle.word_examples.specs.Formula.{is_true}
use Rattle.word_examples.proofs.Formula.+is_true.Given as goal

abbrev pub invariant-loop-member : goal.invariant-loop-member
invariant-loop-member l = is_true l.bound l.self ≡ list_all (is_true l.bound) (drop l.member-index l.member-items)

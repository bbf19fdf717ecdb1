use Rattle.std.proofs.Common.{◌≡◌, take}
use Rattle.word_examples.specs.declared.Formula.{out-Formula}
use Rattle.word_examples.specs.declared.Formula.TheOpen.{And}
use Rattle.word_examples.proofs.FormulaCopied.+copy.Given as goal

abbrev pub invariant-loop-member : goal.invariant-loop-member
invariant-loop-member l = (out-Formula l.self ≡ And l.member-items) × (l.copied ≡ take l.member-index l.member-items)

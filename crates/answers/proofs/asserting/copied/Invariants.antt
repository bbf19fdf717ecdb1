use Rattle.std.proofs.Common.{◌≡◌, take}
use Rattle.logic_terms.specs.Known.{stated}
use Rattle.answers.proofs.asserting.copied.Given as goal

abbrev pub invariant-loop-entry : goal.invariant-loop-entry
invariant-loop-entry l = stated l.copied.items ≡ stated (take l.entry-index l.entries)

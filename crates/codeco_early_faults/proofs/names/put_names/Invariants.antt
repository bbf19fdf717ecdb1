use Rattle.std.proofs.Common.{◌≡◌, drop}
use Rattle.codeco_numbering.specs.Numbered.{gathered}
use Rattle.codeco_early_faults.proofs.names.put_names.Given as goal

abbrev pub invariant-loop-name : goal.invariant-loop-name
invariant-loop-name l = gathered l.names (drop l.name-index l.more) ≡ gathered l.initial.names l.more

use Rattle.std.proofs.Common.{◌≡◌, length}
use Rattle.codeco_late_faults.proofs.StepLemmas.{HasFirst}
use Rattle.codeco_late_faults.proofs.recursion.followers_of.Given as goal

abbrev pub invariant-loop-rule : goal.invariant-loop-rule
invariant-loop-rule l = record {
  first : HasFirst l.rules l.rule-index l.table.items;
  room : length l.table.items ≡ 65536;
}

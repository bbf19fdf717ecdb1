use Rattle.std.proofs.Common.{◌+◌, length}
use Rattle.codeco_late_faults.specs.Steps.{count_out, leads}
use Rattle.codeco_late_faults.proofs.SearchLemmas.{Searches}
use Rattle.codeco_late_faults.proofs.recursion.reached_from.Given as goal

abbrev pub invariant-loop-next : goal.invariant-loop-next
invariant-loop-next l = Searches (leads l.table) l.from l.reached.items l.waiting.items

abbrev pub decreases-loop-next : goal.decreases-loop-next
decreases-loop-next l = count_out l.reached.items + length l.waiting.items

use Rattle.std.proofs.Common.{◌≡◌, ◌+◌, ◌≤◌, drop, length}
use Rattle.logic_terms.specs.Known.{theory_of}
use Rattle.tableau_rules.specs.Neighbours.{roots, roots_in}
use Rattle.tableau_rules.proofs.names.root_count.Given as goal

abbrev pub invariant-loop-entry : goal.invariant-loop-entry
invariant-loop-entry l = record {
  low : l.count ≤ l.entry-index;
  left_decides : length (roots (theory_of l.k)) ≡ l.count + length (roots_in (drop l.entry-index l.entry-items));
}

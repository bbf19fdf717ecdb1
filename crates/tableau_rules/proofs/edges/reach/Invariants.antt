use Rattle.std.proofs.Common.{◌≤◌, ◌+◌, ◌-◌, length}
use Rattle.tableau_rules.specs.Touching.{SameIndex}
use Rattle.tableau_rules.proofs.edges.reach.Given as goal

abbrev pub invariant-loop-alloc : goal.invariant-loop-alloc
invariant-loop-alloc l = record {
  same : SameIndex l.initial.by_node.items l.by_node.items;
  longer : length l.initial.by_node.items ≤ length l.by_node.items;
}

abbrev pub decreases-loop-alloc : goal.decreases-loop-alloc
decreases-loop-alloc l = (l.node + 1) - length l.by_node.items

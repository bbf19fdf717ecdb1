use Rattle.std.proofs.Common.{◌≡◌, map, take}
use Rattle.tableau_rules.specs.Shown.{vertex_of}
use Rattle.tableau_rules.proofs.branch.Branch.copy.Given as goal

abbrev pub invariant-loop-node : goal.invariant-loop-node
invariant-loop-node l = map vertex_of l.nodes.items ≡ map vertex_of (take l.node-index l.node-items)

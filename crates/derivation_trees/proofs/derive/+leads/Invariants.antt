use Rattle.std.proofs.Common.{◌≡◌, drop}
use Rattle.derivation_trees.specs.Derives as derives
use Rattle.derivation_trees.specs.Stands.{Begins, children_of, stand_of, standing, values_in}
use Rattle.derivation_trees.proofs.derive.+leads.Given as goal

abbrev pub invariant-run-loop-element : goal.invariant-run-loop-element
invariant-run-loop-element l =
    (derives.run l.setting (values_in l.tree) (drop l.element-index l.body) (standing (children_of l.setting l.tree) (l.stand, l.used))
    ≡ derives.run l.setting (values_in l.tree) l.body (stand_of (children_of l.setting l.tree) l.fn.start)) × Begins l.fn.start.list l.stand.list

use Rattle.std.proofs.Common.{◌<◌, length, sym, arith}
use Rattle.std.specs.List.{list_any}
use Rattle.logic_terms.specs.Known.{theory_of}
use Rattle.logic_terms.proofs.Places.{some_below_passes}
use Rattle.tableau_rules.specs.Clashes.{clashes_at}
use Rattle.tableau_rules.specs.Graph.{label_at}
use Rattle.tableau_rules.specs.Shown.{graph_of}
use Rattle.tableau_rules.proofs.clashes.clash_of_nodes.Goals as goal

pub returns-in-Some-clause-exact : goal.returns-in-Some-clause-exact
returns-in-Some-clause-exact c =
    let lt : c.loop-node.node < length (graph_of c.args.b.now).nodes = omega (arith, c.len-node-end.ensures, c.loop-node-test.true) in
    sym (some_below_passes (λ x. list_any (clashes_at (theory_of c.args.k.now) (graph_of c.args.b.now) x) (label_at (graph_of c.args.b.now) x)) c.loop-node.node
    (length (graph_of c.args.b.now).nodes) lt (sym c.in-Some.ensures.exact))

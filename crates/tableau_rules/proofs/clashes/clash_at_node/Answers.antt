use Rattle.std.proofs.Common.{◌<◌, length, sym, arith}
use Rattle.logic_terms.specs.Known.{theory_of}
use Rattle.tableau_rules.specs.Clashes.{clashes_at}
use Rattle.tableau_rules.specs.Graph.{label_at}
use Rattle.tableau_rules.specs.Shown.{graph_of}
use Rattle.tableau_rules.proofs.Passing.{passes_any, passes_more}
use Rattle.tableau_rules.proofs.clashes.clash_at_node.Goals as goal

pub returns-in-Some-clause-exact : goal.returns-in-Some-clause-exact
returns-in-Some-clause-exact c =
    sym (passes_any (clashes_at (theory_of c.args.k.now) (graph_of c.args.b.now) c.args.node) (label_at (graph_of c.args.b.now) c.args.node) c.loop-place.place
    (sym c.in-Some.ensures.exact))

pub loop-place-preserved : goal.loop-place-preserved
loop-place-preserved c =
    let lt : c.loop-place.place < length (label_at (graph_of c.args.b.now) c.args.node) =
    omega (arith, c.label_len-place-end.ensures, c.loop-place-test.true) in
    passes_more (clashes_at (theory_of c.args.k.now) (graph_of c.args.b.now) c.args.node) (label_at (graph_of c.args.b.now) c.args.node) c.loop-place.place lt
    c.loop-place.invariant (sym c.in_default.ensures.exact)

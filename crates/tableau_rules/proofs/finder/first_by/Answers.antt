use Rattle.std.proofs.Common.{◌<◌, length, sym, arith}
use Rattle.logic_terms.specs.Known.{theory_of}
use Rattle.tableau_rules.specs.Rules.{first_at}
use Rattle.tableau_rules.specs.Shown.{graph_of}
use Rattle.tableau_rules.proofs.Firsts.{first_found}
use Rattle.tableau_rules.proofs.finder.first_by.Goals as goal

pub returns-in-Some : goal.returns-in-Some
returns-in-Some c =
    let lt : c.loop-node.node < length (graph_of c.args.b.now).nodes = omega (arith, c.len-node-end.ensures, c.loop-node-test.true) in
    sym (first_found (first_at (theory_of c.args.k.now) (graph_of c.args.b.now) c.args.rule) c.loop-node.node c.loop-node.invariant
    (length (graph_of c.args.b.now).nodes) c.in-Some.step lt (sym c.in-Some.ensures))

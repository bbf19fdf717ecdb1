use Rattle.std.proofs.Common.{sym, ◌∙◌}
use Rattle.logic_terms.specs.Known.{theory_of}
use Rattle.tableau_rules.specs.Shown.{graph_of}
use Rattle.agenda.proofs.Clashed.{grown_exact, from_exact, to_exact, none_exact}
use Rattle.agenda.proofs.clashing.clash_after.Goals as goal

pub returns-in-Some-clause-exact : goal.returns-in-Some-clause-exact
returns-in-Some-clause-exact c before =
    c.clash_at_node.ensures.exact ∙ grown_exact (theory_of c.args.k.now) c.args.step.now (graph_of c.args.b.now) before c.in-Some.node (sym c.in-Some.ensures)

pub returns-in-Some-clash_at_node-clause-exact : goal.returns-in-Some-clash_at_node-clause-exact
returns-in-Some-clash_at_node-clause-exact c before =
    from_exact (theory_of c.args.k.now) c.args.step.now (graph_of c.args.b.now) before c.in-Some-last_edge.edge (sym c.in-None.ensures)
    (sym c.in-Some-last_edge.ensures) (sym c.in-Some-clash_at_node.ensures.exact)

pub returns-in-None-clash_at_node-clause-exact : goal.returns-in-None-clash_at_node-clause-exact
returns-in-None-clash_at_node-clause-exact c before =
    c.clash_at_node-in-None-clash_at_node.ensures.exact
    ∙ to_exact (theory_of c.args.k.now) c.args.step.now (graph_of c.args.b.now) before c.in-Some-last_edge.edge (sym c.in-None.ensures)
    (sym c.in-Some-last_edge.ensures) (sym c.in-None-clash_at_node.ensures.exact)

pub returns-in-None-last_edge-clause-exact : goal.returns-in-None-last_edge-clause-exact
returns-in-None-last_edge-clause-exact c before =
    none_exact (theory_of c.args.k.now) c.args.step.now (graph_of c.args.b.now) before (sym c.in-None.ensures) (sym c.in-None-last_edge.ensures)

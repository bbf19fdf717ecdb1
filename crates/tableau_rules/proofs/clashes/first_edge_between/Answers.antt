use Rattle.std.proofs.Common.{◌<◌, length, sym, ◌∙◌, arith}
use Rattle.logic_terms.specs.Known.{theory_of}
use Rattle.tableau_rules.specs.Neighbours.{makes_neighbour}
use Rattle.tableau_rules.specs.Shown.{graph_of}
use Rattle.tableau_rules.proofs.Passing.{passes_any, passes_more}
use Rattle.tableau_rules.proofs.clashes.first_edge_between.Goals as goal

pub returns-then-is_made_by-clause-exact : goal.returns-then-is_made_by-clause-exact
returns-then-is_made_by-clause-exact c =
    sym (passes_any (makes_neighbour (theory_of c.args.k.now) c.args.role c.args.from c.args.to) (graph_of c.args.b.now).edges c.loop-place.place
    (sym c.is_made_by.ensures ∙ c.if-is_made_by.true))

pub loop-place-preserved : goal.loop-place-preserved
loop-place-preserved c =
    let lt : c.loop-place.place < length (graph_of c.args.b.now).edges = omega (arith, c.edge_count-place-end.ensures, c.loop-place-test.true) in
    passes_more (makes_neighbour (theory_of c.args.k.now) c.args.role c.args.from c.args.to) (graph_of c.args.b.now).edges c.loop-place.place lt
    c.loop-place.invariant (sym c.is_made_by.ensures ∙ c.if-is_made_by.false)

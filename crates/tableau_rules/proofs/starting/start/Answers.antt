use Rattle.std.proofs.Common.{◌≡◌, ◌++◌, subst, sym, ap, ◌∙◌}
use Rattle.std.specs.List.{filter_map}
use Rattle.std.proofs.lemmas.Result.{IfOk-weaker}
use Rattle.logic_terms.specs.Known.{theory_of}
use Rattle.tableau_rules.specs.Branches.{IsBranch, begun, first_edge, start}
use Rattle.tableau_rules.specs.Graph.{Graph}
use Rattle.tableau_rules.specs.Shown.{graph_of}
use Rattle.tableau_rules.proofs.starting.start.Goals as goal

pub returns-clause-branch : goal.returns-clause-branch
returns-clause-branch c =
    let nodes = c.in_ok-nodes.ensures {u = tt} in
    let joined : Graph = record {
      nodes = (graph_of c.new.result).nodes;
      edges = (graph_of c.new.result).edges ++ filter_map (first_edge (theory_of c.args.k.now)) (theory_of c.args.k.now).edges;
    } in
    let exact : joined ≡ start (theory_of c.args.k.now) = λ j. let g : Graph =
    record {
      nodes = (ap (λ h. h.nodes) c.new.ensures ∙ nodes) j;
      edges = (c.new.ensures j).edges ++ filter_map (first_edge (theory_of c.args.k.now)) (theory_of c.args.k.now).edges;
    } in g in
    IfOk-weaker c.join_first_edges.result (λ b. graph_of b ≡ joined) (λ b. IsBranch (theory_of c.args.k.now) (graph_of b))
    (λ b e. subst (IsBranch (theory_of c.args.k.now)) (sym (e ∙ exact)) begun) c.join_first_edges.ensures

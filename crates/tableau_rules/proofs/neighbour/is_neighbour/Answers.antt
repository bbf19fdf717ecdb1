use Rattle.std.proofs.Common.{ap, ◌∙◌}
use Rattle.std.specs.List.{list_any}
use Rattle.logic_terms.specs.Known.{theory_of}
use Rattle.tableau_rules.specs.Neighbours.{makes_neighbour}
use Rattle.tableau_rules.specs.Shown.{graph_of}
use Rattle.tableau_rules.proofs.Reaching.{neighbours_at}
use Rattle.tableau_rules.proofs.neighbour.is_neighbour.Goals as goal

pub returns : goal.returns
returns c =
    c.some_makes_neighbour.ensures
    ∙ (ap (list_any (makes_neighbour (theory_of c.args.k.now) c.args.role c.args.from c.args.to)) c.edges_at.ensures
    ∙ neighbours_at (theory_of c.args.k.now) c.args.role c.args.from c.args.to (graph_of c.args.b.now).edges)

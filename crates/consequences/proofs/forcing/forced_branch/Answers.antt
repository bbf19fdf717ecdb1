use Rattle.logic_terms.specs.Known.{theory_of}
use Rattle.tableau_rules.specs.Shown.{graph_of}
use Rattle.consequences.proofs.ForcedLemmas.{forced_start}
use Rattle.consequences.proofs.forcing.forced_branch.Goals as goal

pub forced-requires : goal.forced-requires
forced-requires c = forced_start (theory_of c.args.k.now) (graph_of c.in_ok-first.first) c.in_ok-first.ensures.exact

pub returns-in-Tree : goal.returns-in-Tree
returns-in-Tree c = forced_start (theory_of c.args.k.now) (graph_of c.in_ok-first.first) c.in_ok-first.ensures.exact

pub returns : goal.returns
returns c = forced_start (theory_of c.args.k.now) (graph_of c.in_ok-first.first) c.in_ok-first.ensures.exact

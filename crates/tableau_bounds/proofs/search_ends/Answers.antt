use Rattle.tableau_bounds.proofs.Laws.{nodes_bounded, search_ends}
use Rattle.tableau_bounds.specs.Enough.{own_occurrences}
use Rattle.tableau_bounds.proofs.Parts.{length-moved}
use Rattle.tableau_bounds.proofs.Straight.{no_new_nodes, ends_without_choices, ends_without_new_nodes}
use Rattle.tableau_bounds.proofs.search_ends.Goals as goal

pub returns-clause-classes : goal.returns-clause-classes
returns-clause-classes c k = length-moved (own_occurrences k) k.transitive

pub returns-clause-nodes : goal.returns-clause-nodes
returns-clause-nodes c = nodes_bounded

pub returns-clause-ends : goal.returns-clause-ends
returns-clause-ends c = search_ends

pub returns-clause-straight : goal.returns-clause-straight
returns-clause-straight c = ends_without_choices

pub returns-clause-first_nodes : goal.returns-clause-first_nodes
returns-clause-first_nodes c = no_new_nodes

pub returns-clause-short : goal.returns-clause-short
returns-clause-short c = ends_without_new_nodes

use Rattle.std.proofs.Common.{◌≡◌, length, take}
use Rattle.std.specs.List.{flat_map}
use Rattle.logic_terms.specs.Known.{theory_of}
use Rattle.logic_terms.specs.Shown.{concept_of}
use Rattle.tableau_rules.specs.Carrying.{both_ways}
use Rattle.tableau_rules.specs.Shown.{graph_of}
use Rattle.tableau_rules.proofs.Carriers.{first, in_need}
use Rattle.tableau_rules.proofs.rows.first_to_get.Given as goal

abbrev pub invariant-loop-word : goal.invariant-loop-word
invariant-loop-word l = l.least
    ≡ first (length (graph_of l.b).nodes)
    (in_need (theory_of l.k) (graph_of l.b) l.role (concept_of l.class) l.node (flat_map both_ways (take l.word-index l.word-items)))

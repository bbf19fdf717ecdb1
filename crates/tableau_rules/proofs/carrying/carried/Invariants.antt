use Rattle.std.proofs.Common.{◌≡◌, take}
use Rattle.std.specs.List.{flat_map}
use Rattle.logic_terms.specs.Known.{theory_of}
use Rattle.logic_terms.specs.Shown.{concept_of, concepts_of}
use Rattle.tableau_rules.specs.Carrying.{both_ways}
use Rattle.tableau_rules.specs.Shown.{graph_of}
use Rattle.tableau_rules.proofs.Carriers.{carried_by}
use Rattle.tableau_rules.proofs.carrying.carried.Given as goal

abbrev pub invariant-loop-word : goal.invariant-loop-word
invariant-loop-word l = concepts_of l.made
    ≡ carried_by (theory_of l.k) (graph_of l.b) l.role (concept_of l.class) l.node l.other (flat_map both_ways (take l.word-index l.word-items))

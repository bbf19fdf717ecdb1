use Rattle.std.proofs.Common.{◌≡◌, false, take}
use Rattle.std.specs.List.{list_any}
use Rattle.logic_terms.specs.Concept.{Atomic, ComplementOf}
use Rattle.logic_terms.specs.Same.{same_concept}
use Rattle.tableau_rules.specs.Graph.{label_at}
use Rattle.tableau_rules.specs.Shown.{graph_of}
use Rattle.tableau_rules.proofs.clashes.denial.Given as goal

abbrev pub invariant-loop-place : goal.invariant-loop-place
invariant-loop-place l = list_any (λ d. same_concept d (ComplementOf (Atomic l.word))) (take l.place (label_at (graph_of l.b) l.node)) ≡ false

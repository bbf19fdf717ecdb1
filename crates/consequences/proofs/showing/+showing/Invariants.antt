use Rattle.std.proofs.Common.{◌≡◌, ◌&&◌, true, false, take}
use Rattle.std.specs.List.{list_any, list_all}
use Rattle.logic_terms.specs.Known.{theory_of}
use Rattle.logic_terms.specs.Shown.{concept_of, concepts_of}
use Rattle.tableau_rules.specs.Neighbours.{makes_neighbour}
use Rattle.tableau_rules.specs.Shown.{graph_of}
use Rattle.tableau_rules.specs.Touching.{far_end}
use Rattle.consequences.specs.Shows.{shows}
use Rattle.consequences.proofs.showing.+showing.Given as goal

abbrev pub invariant-each_is_shown-loop-place : goal.invariant-each_is_shown-loop-place
invariant-each_is_shown-loop-place l = list_all (λ c. shows (theory_of l.k) (graph_of l.b) c l.node) (take l.place (concepts_of l.classes)) ≡ true

abbrev pub invariant-some_end_is_shown-loop-edge : goal.invariant-some_end_is_shown-loop-edge
invariant-some_end_is_shown-loop-edge l =
    list_any (λ e. makes_neighbour (theory_of l.k) l.role l.node (far_end l.node e) e
    && shows (theory_of l.k) (graph_of l.b) (concept_of l.class) (far_end l.node e)) (take l.edge-index l.edges) ≡ false

abbrev pub invariant-some_is_shown-loop-place : goal.invariant-some_is_shown-loop-place
invariant-some_is_shown-loop-place l = list_any (λ c. shows (theory_of l.k) (graph_of l.b) c l.node) (take l.place (concepts_of l.classes)) ≡ false

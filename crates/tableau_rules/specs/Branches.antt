-- The branches of knowledge: what `start` and steps that apply make of it.
use Rattle.std.specs.Prelude.{ℕ, ◌<◌, ◌&&◌, Bool, not, List, [], ◌∷◌, ◌++◌, map, filter, filter_map, Option, None, IsTrue, is_some}
use Rattle.std.specs.Option.{option_and_then, option_map}
use Rattle.wiki_base.specs.declared.numbers.WordId.{WordId}
use Rattle.logic_terms.specs.declared.expressions.Role.{Role}
use Rattle.logic_terms.specs.Concept.{Concept}
use Rattle.logic_terms.specs.Interpretation.{is_word}
use Rattle.logic_terms.specs.Theory.{Theory, representative}
use Rattle.tableau_rules.specs.declared.branch.Edge.{Edge}
use Rattle.tableau_rules.specs.declared.step.Step.{Step}
use Rattle.tableau_rules.specs.Graph.{Graph, Vertex}
use Rattle.tableau_rules.specs.Neighbours.{roots, node_of}
use Rattle.tableau_rules.specs.Clashes.{passes, has_clash}
use Rattle.tableau_rules.specs.Rules.{with_classes, first_step, applies, choices, after}

-- the classes that are asserted of the names with this representative
abbrev pub asserted : Theory → WordId → List Concept
asserted k root = map (λ e. e.1) (filter (λ e. passes (representative k e.0) (is_word root)) k.assertions)

-- a first node: what is asserted, and then the general classes
abbrev pub first_node : Theory → List Concept → Vertex
first_node k cs = record { parent = None; label = with_classes [] (cs ++ k.general) }

-- one for each root, or an anonymous one where there is no name
abbrev pub first_nodes : Theory → List WordId → List Vertex
first_nodes k [] = first_node k [] ∷ []
first_nodes k (root ∷ others) = map (λ r. first_node k (asserted k r)) (root ∷ others)

-- the edge of a property assertion, between the nodes of its names
abbrev pub first_edge : Theory → Role × WordId × WordId → Option Edge
first_edge k e = option_and_then (λ x. option_map (λ y. record { from = x; role = e.0; to = y }) (node_of k e.2)) (node_of k e.1)

abbrev pub start : Theory → Graph
start k = record { nodes = first_nodes k (roots k); edges = filter_map (first_edge k) k.edges }

-- a branch of the knowledge
pub data IsBranch (k : Theory) : Graph → Type 0 where
  begun : IsBranch k (start k)
  stepped : (g : Graph) (s : Step) (choice : ℕ) → IsBranch k g → IsTrue (applies k g s) → choice < choices g s → IsBranch k (after k g s choice)

-- a branch at which a search ends: it has no clash, and no step applies
abbrev pub is_finished : Theory → Graph → Bool
is_finished k g = not (has_clash k g) && not (is_some (first_step k g))

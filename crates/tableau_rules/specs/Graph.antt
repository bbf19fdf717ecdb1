-- A branch as a completion graph: nodes with labels, and edges.
use Rattle.std.specs.Prelude.{ℕ, List, [], Option, slice_get}
use Rattle.std.specs.Option.{option_and_then, option_map_or}
use Rattle.logic_terms.specs.Concept.{Concept}
use Rattle.tableau_rules.specs.declared.branch.Edge.{Edge}

-- a node: the node that made it, where one did, and the classes of its label
pub record Vertex : Type 0 where
  pub parent : Option ℕ
  pub label : List Concept

-- a node's number is its place
pub record Graph : Type 0 where
  pub nodes : List Vertex
  pub edges : List Edge

-- the label of a node
abbrev pub label_at : Graph → ℕ → List Concept
label_at g x = option_map_or (λ v. v.label) (slice_get g.nodes x) []

-- the class at a place of a node's label
abbrev pub class_at : Graph → ℕ → ℕ → Option Concept
class_at g x place = slice_get (label_at g x) place

-- the node that made a node
abbrev pub parent_of : Graph → ℕ → Option ℕ
parent_of g x = option_and_then (λ v. v.parent) (slice_get g.nodes x)

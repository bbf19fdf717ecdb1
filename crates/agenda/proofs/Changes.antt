-- What a step leaves as it was.
use Rattle.std.specs.Prelude.{ℕ, ◌≡◌, ◌<◌, ◌≤◌, Bool, true, false, length}
use Rattle.logic_terms.specs.declared.expressions.Role.{Role}
use Rattle.logic_terms.specs.Concept.{Concept}
use Rattle.logic_terms.specs.Same.{has_concept}
use Rattle.logic_terms.specs.Theory.{Theory}
use Rattle.tableau_rules.specs.Graph.{Graph, label_at, parent_of}
use Rattle.tableau_rules.specs.Neighbours.{is_neighbour}

-- a branch became another one: only some nodes' labels grew, and only some nodes got an edge
pub record Changes (k : Theory) (g h : Graph) (grows joins : ℕ → Bool) : Type 0 where
  pub count : length g.nodes ≤ length h.nodes
  pub parents : (y : ℕ) → y < length g.nodes → parent_of h y ≡ parent_of g y
  pub labels : (y : ℕ) → grows y ≡ false → label_at h y ≡ label_at g y
  pub more : (y : ℕ) (c : Concept) → has_concept (label_at g y) c ≡ true → has_concept (label_at h y) c ≡ true
  pub edges : (role : Role) (y z : ℕ) → is_neighbour k g role y z ≡ true → is_neighbour k h role y z ≡ true
  pub only : (role : Role) (y z : ℕ) → joins y ≡ false → is_neighbour k h role y z ≡ true → is_neighbour k g role y z ≡ true
  pub fresh : (y : ℕ) → length g.nodes ≤ y → y < length h.nodes → grows y ≡ true

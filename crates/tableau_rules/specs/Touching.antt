-- The edges at a node, and which of them lead to neighbours.
use Rattle.std.specs.Prelude.{ℕ, ◌≡◌, ◌==◌, ◌&&◌, ◌||◌, ◌++◌, Bool, List, [], ◌∷◌, filter, nat_lt, slice_index_or, if◌then◌else◌}
use Rattle.logic_terms.specs.declared.expressions.Role.{Role}
use Rattle.logic_terms.specs.Theory.{Theory}
use Rattle.tableau_rules.specs.declared.branch.Edge.{Edge}
use Rattle.tableau_rules.specs.Neighbours.{makes_neighbour}

-- whether an edge leads from a node or to it
abbrev pub touches : ℕ → Edge → Bool
touches x e = (e.from == x) || (e.to == x)

-- the edges that lead from a node or to it
abbrev pub edges_at : List Edge → ℕ → List Edge
edges_at edges x = filter (touches x) edges

-- the list of a node, and no edges beyond the lists
abbrev pub list_at : List (List Edge) → ℕ → List Edge
list_at lists x = slice_index_or lists x []

-- whether lists hold the edges at each node
abbrev pub IsIndex : List (List Edge) → List Edge → Type 0
IsIndex lists edges = (x : ℕ) → list_at lists x ≡ edges_at edges x

-- whether two lists of lists are the same but for empty ones at the end
abbrev pub SameIndex : List (List Edge) → List (List Edge) → Type 0
SameIndex old new = (x : ℕ) → list_at new x ≡ list_at old x

-- whether an edge was added to the lists of its two nodes
abbrev pub Notes : List (List Edge) → List (List Edge) → Edge → Type 0
Notes old new e = (x : ℕ) → list_at new x ≡ list_at old x ++ edges_at (e ∷ []) x

-- the node at the other end of an edge
abbrev pub far_end : ℕ → Edge → ℕ
far_end x e = if e.from == x then e.to else e.from

-- whether the other end of an edge is a neighbour by a role, is one of so many nodes, and passes a test
abbrev pub reaches : Theory → Role → ℕ → ℕ → (ℕ → Bool) → Edge → Bool
reaches k role count x test e = makes_neighbour k role x (far_end x e) e && (nat_lt (far_end x e) count && test (far_end x e))

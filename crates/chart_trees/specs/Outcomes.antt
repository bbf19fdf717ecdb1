-- The least trees for each end. Only private calls speak of it.
use Rattle.std.specs.Prelude.{◌≡◌, ℕ, List, length, drop, slice_get, Some, ◌⊎◌}
use Rattle.codeco_terms.specs.declared.values.Value.{Value}
use Rattle.codeco_terms.specs.declared.rules.Rule.{Rule}
use Rattle.scopes.specs.declared.entries.Entry.{Entry}
use Rattle.scopes.specs.declared.agreement.Test.{Test}
use Rattle.derivation_trees.specs.Trees.{Node, Nodes, node, node_of, nodes_from}
use Rattle.derivation_trees.specs.Settings.{Setting}
use Rattle.derivation_trees.specs.Derives.{At, phrase_of}
use Rattle.derivations.specs.Among.{Among}
use Rattle.derivations.specs.Enumeration as enumeration
use Rattle.chart_table.specs.Branches.{OneOf}
use Rattle.chart_table.specs.Ends.{left_of}
use Rattle.chart_trees.specs.declared.outcomes.Outcome.{Outcome}
use Rattle.chart_trees.specs.declared.outcomes.Seat.{Seat}
use Rattle.chart_trees.specs.declared.outcomes.Seat.TheVariants as seat
use Rattle.chart_trees.specs.declared.paths.Path.{Path}
use Rattle.chart_trees.specs.Order.{AtMost, node_code}
use Rattle.chart_trees.specs.Paths.{path_of, end_from}

-- the tree leads there as a phrase for the category, and the code is its code
pub record IsOutcome (s : Setting) (asked : Test) (at : At) (o : Outcome) : Type 0 where
  pub led : phrase_of s (node_of o.tree) asked at ≡ Some (end_from at.list o)
  pub coded : o.code ≡ node_code (node_of o.tree)

-- one of the outcomes has the end, with the code or a lower one
abbrev pub Holds : List Outcome → ℕ → List Entry → List ℕ → Type 0
Holds outcomes place tail code = (o : Outcome) × Among outcomes o × (o.place ≡ place) × (o.tail ≡ tail) × AtMost o.code code

-- one of the outcomes leads there from the list, with the code or a lower one
abbrev pub Covers : List Outcome → List Entry → At → List ℕ → Type 0
Covers outcomes list after code = (o : Outcome) × Among outcomes o × (after ≡ end_from list o) × AtMost o.code code

-- the least trees for a category from a place and a list: each leads there, and each tree that leads somewhere as a phrase for
-- the category has one that leads to the same place and list whose code is the same or lower
pub record IsBest (s : Setting) (asked : Test) (at : At) (outcomes : List Outcome) : Type 0 where
  pub sound : (o : Outcome) → Among outcomes o → IsOutcome s asked at o
  pub least : (n : Node) (after : At) → phrase_of s n asked at ≡ Some after → Covers outcomes at.list after (node_code n)

-- where an outcome belongs among others
abbrev pub IsSeat : List Outcome → Outcome → Seat → Type 0
IsSeat outcomes new seat.Taken = Holds outcomes new.place new.tail new.code
IsSeat outcomes new (seat.At place) = (old : Outcome) × (slice_get outcomes place ≡ Some old) × (new.place ≡ old.place) × (new.tail ≡ old.tail)
    × AtMost new.code old.code
IsSeat outcomes new seat.Free = Unit {0}

-- the later list has the ends of the first and that of one more outcome, each with as low a code
pub record IsPut (x : Outcome) (before after : List Outcome) : Type 0 where
  pub sound : (o : Outcome) → Among after o → Among before o ⊎ (o ≡ x)
  pub kept : (o : Outcome) → Among before o → Holds after o.place o.tail o.code
  pub new : Holds after x.place x.tail x.code

-- the outcome is that at the end of a path
pub record IsEnded (number : ℕ) (rule : Rule) (values : List (ℕ × Value)) (begun : List Entry) (p : enumeration.Path) (o : Outcome) : Type 0 where
  pub tree : node_of o.tree ≡ node number values p.found (nodes_from p.children)
  pub coded : o.code ≡ node_code (node_of o.tree)
  pub place : o.place ≡ p.at.place
  pub tail : o.tail ≡ left_of rule (drop (length begun) p.at.list)

-- the later list has the ends of the first and those of paths, each with as low a code
pub record HasEnded (number : ℕ) (rule : Rule) (values : List (ℕ × Value)) (begun : List Entry) (paths : List Path) (before after : List Outcome) : Type 0 where
  pub sound : (o : Outcome) → Among after o → Among before o ⊎ ((p : Path) × Among paths p × IsEnded number rule values begun (path_of p) o)
  pub kept : (o : Outcome) → Among before o → Holds after o.place o.tail o.code
  pub new : (p : Path) → Among paths p → Holds after p.place (left_of rule (drop (length begun) p.list))
      (node_code (node number values (path_of p).found (nodes_from (path_of p).children)))

-- the tree is one with the rule and the instance
abbrev pub IsOfInstance : ℕ → List (ℕ × Value) → Node → Type 0
IsOfInstance number values n = (found : List ℕ) × (children : Nodes) × (n ≡ node number values found children)

-- the tree is one with the rule and one of the instances
abbrev pub IsOfInstances : ℕ → List (List (ℕ × Value)) → Node → Type 0
IsOfInstances number instances n = (values : List (ℕ × Value)) × OneOf instances values × IsOfInstance number values n

-- the tree is one with the rule
abbrev pub IsOfRule : ℕ → Node → Type 0
IsOfRule number n = (values : List (ℕ × Value)) × IsOfInstance number values n

-- the later list has the ends of the first, and of the trees with the property that are phrases for the category, each with as
-- low a code, and nothing else
pub record HasTrees (s : Setting) (asked : Test) (at : At) (P : Node → Type 0) (before after : List Outcome) : Type 0 where
  pub sound : (o : Outcome) → Among after o → Among before o ⊎ IsOutcome s asked at o
  pub kept : (o : Outcome) → Among before o → Holds after o.place o.tail o.code
  pub new : (n : Node) (end : At) → P n → phrase_of s n asked at ≡ Some end → Covers after at.list end (node_code n)

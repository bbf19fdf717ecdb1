-- What the lists of an agenda say.
use Rattle.std.specs.Prelude.{ℕ, ◌≡◌, ◌==◌, ◌-◌, ◌<◌, ◌⊎◌, Bool, true, false, List, [], length, slice_get, slice_index_or, Option, Some, None, IsTrue, if◌then◌else◌}
use Rattle.std.specs.List.{list_any}
use Rattle.std.specs.BTreeSet.{contains}
use Rattle.std.specs.Ordering.{nat_cmp}
use Rattle.logic_terms.specs.declared.expressions.Role.{Role}
use Rattle.logic_terms.specs.Concept.{Concept}
use Rattle.logic_terms.specs.Meaning.{some_below}
use Rattle.logic_terms.specs.Parts.{some_part}
use Rattle.logic_terms.specs.Theory.{Theory}
use Rattle.tableau_rules.specs.declared.branch.Edge.{Edge}
use Rattle.tableau_rules.specs.declared.step.Rule.{Rule}
use Rattle.tableau_rules.specs.declared.step.Step.{Step}
use Rattle.tableau_rules.specs.Branches.{IsBranch}
use Rattle.tableau_rules.specs.Blocking.{is_indirectly_blocked}
use Rattle.tableau_rules.specs.Graph.{Graph, label_at, class_at}
use Rattle.tableau_rules.specs.Neighbours.{is_neighbour}
use Rattle.tableau_rules.specs.Rules.{serves, applies, after}
use Rattle.agenda.specs.declared.queue.Queue.{Queue}
use Rattle.agenda.specs.Resting.{concerns, way_up, waits_for, Fits}
use Rattle.agenda.specs.Steps.{reaches_out}

-- whether x is in the list of z
abbrev pub is_listed : List (List ℕ) → ℕ → ℕ → Bool
is_listed lists z x = list_any (λ y. y == x) (slice_index_or lists z [])

-- each node that is in a list stays in it
abbrev pub Lists : List (List ℕ) → List (List ℕ) → Type 0
Lists old new = (z x : ℕ) → is_listed old z x ≡ true → is_listed new z x ≡ true

-- whether a node is due by a rule's queue
abbrev pub is_due : Queue → ℕ → Bool
is_due q x = contains nat_cmp q.due x

-- whether x waits for z by a rule's queue
abbrev pub is_waiting : Queue → ℕ → ℕ → Bool
is_waiting q z x = is_listed q.waiting.items z x

-- a rule's queue leaves out no node at which a step by the rule applies
abbrev pub FitsQueue : Theory → Graph → Rule → Queue → Type 0
FitsQueue k g r q = Fits k g r (is_due q) (is_waiting q)

-- where a queue fits a branch of the knowledge, another one fits the branch after a choice of a step that applies
abbrev pub FollowsQueue : Theory → Step → Graph → Rule → Queue → Queue → Type 0
FollowsQueue k s h r old new =
    (g : Graph) (choice : ℕ) → IsBranch k g → IsTrue (applies k g s) → h ≡ after k g s choice → FitsQueue k g r old → FitsQueue k h r new

-- the edge that was added last
abbrev pub last_edge : Graph → Option Edge
last_edge g = if length g.edges == 0 then None else slice_get g.edges (length g.edges - 1)

-- a node waits for what blocks its indirectly blocked neighbours
abbrev pub AreWaitedFor : Theory → Graph → (ℕ → ℕ → Bool) → ℕ → Type 0
AreWaitedFor k g waits x =
    (role : Role) (y : ℕ) → is_neighbour k g role x y ≡ true → is_indirectly_blocked k g y ≡ true → waits_for waits x (way_up g y) ≡ true

-- for a class of some successor at a place of its label no neighbour serves, or one does and the node waits for what may block it
abbrev pub IsWaitedFor : Theory → Graph → (ℕ → ℕ → Bool) → ℕ → ℕ → Type 0
IsWaitedFor k g waits x place =
    (c : Concept) (p : Role × Concept) → class_at g x place ≡ Some c → some_part c ≡ Some p
    → (some_below (length g.nodes) (serves k g p.0 p.1 x) ≡ false)
    ⊎ ((y : ℕ) × (y < length g.nodes) × (serves k g p.0 p.1 x y ≡ true) × (waits_for waits x (way_up g y) ≡ true))

-- a node is due, or its label does not concern the rule
abbrev pub IsPut : Graph → Rule → Queue → ℕ → Type 0
IsPut g r q x = (is_due q x ≡ true) ⊎ (concerns r (label_at g x) ≡ false)

-- what a queue gets where a label grew
pub record NotesLabel (g : Graph) (r : Rule) (x : ℕ) (old new : Queue) : Type 0 where
  pub woken : (y : ℕ) → is_waiting old x y ≡ true → is_due new y ≡ true
  pub kept : (y : ℕ) → is_due old y ≡ true → is_due new y ≡ true
  pub waiting : (z y : ℕ) → (x ≡ z → ⊥) → is_waiting old z y ≡ true → is_waiting new z y ≡ true
  pub put : IsPut g r new x

-- what a queue gets where an edge joins two nodes
pub record Meets (g : Graph) (r : Rule) (e : Edge) (old new : Queue) : Type 0 where
  pub kept : (y : ℕ) → is_due old y ≡ true → is_due new y ≡ true
  pub waiting : (z y : ℕ) → is_waiting old z y ≡ true → is_waiting new z y ≡ true
  pub met : reaches_out r ≡ true → IsPut g r new e.from × IsPut g r new e.to

-- what a queue gets where an edge came, to a new node or not
pub record NotesEdge (g : Graph) (r : Rule) (e : Edge) (is_new : Bool) (old new : Queue) : Type 0 where
  pub kept : (y : ℕ) → is_due old y ≡ true → is_due new y ≡ true
  pub met : reaches_out r ≡ true → IsPut g r new e.from × IsPut g r new e.to
  pub old_to : is_new ≡ false → (z y : ℕ) → is_waiting old z y ≡ true → is_waiting new z y ≡ true
  pub new_to : is_new ≡ true → NotesLabel g r e.to old new

-- The elements of a branch's model: the nodes that are not blocked, in order. Only private calls speak of it.
use Rattle.std.specs.Prelude.{ℕ, ◌≡◌, ◌<◌, ◌⊎◌, true, false, List, length, Option, Some, None, slice_get}
use Rattle.logic_terms.specs.Theory.{Theory}
use Rattle.tableau_rules.specs.Graph.{Graph, label_at, parent_of}
use Rattle.tableau_rules.specs.Blocking.{is_anonymous, same_classes, is_blocked, is_directly_blocked, is_indirectly_blocked}

-- each node's parent has a smaller number
abbrev pub ParentsBelow : Graph → Type 0
ParentsBelow g = (x p : ℕ) → parent_of g x ≡ Some p → p < x

-- a twin of a node: an unblocked anonymous node before it with the same classes
pub record IsTwin (k : Theory) (g : Graph) (x z : ℕ) : Type 0 where
  pub before : z < x
  pub anonymous : is_anonymous k z ≡ true
  pub same : same_classes (label_at g x) (label_at g z) ≡ true
  pub unblocked : is_blocked k g z ≡ false

-- z is x itself, which is not blocked, or the twin of x, which is directly blocked
abbrev pub StandsFor : Theory → Graph → ℕ → ℕ → Type 0
StandsFor k g x z = ((is_blocked k g x ≡ false) × (x ≡ z)) ⊎ ((is_directly_blocked k g x ≡ true) × IsTwin k g x z)

-- of the first nodes each that is not indirectly blocked has the number of an element, which that node or its twin owns
pub record ArePlaced (k : Theory) (g : Graph) (count : ℕ) (owners : List ℕ) (stands : List (Option ℕ)) : Type 0 where
  pub all : length stands ≡ count
  pub hidden : (x : ℕ) → x < count → is_indirectly_blocked k g x ≡ true → slice_get stands x ≡ Some None
  pub shown : (x : ℕ) → x < count → is_indirectly_blocked k g x ≡ false
      → (e : ℕ) × (z : ℕ) × (slice_get stands x ≡ Some (Some e)) × (slice_get owners e ≡ Some z) × StandsFor k g x z
  pub owned : (e z : ℕ) → slice_get owners e ≡ Some z → (z < count) × (is_blocked k g z ≡ false) × (slice_get stands z ≡ Some (Some e))

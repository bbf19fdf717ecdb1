-- Which nodes are blocked. A blocked node gets no further edges or nodes: a node above it, with the same classes, has them.
use Rattle.std.specs.Prelude.{ℕ, zero, suc, ◌&&◌, ◌||◌, Bool, false, not, List, [], ◌∷◌, length, nat_lt}
use Rattle.std.specs.List.{list_any, list_all}
use Rattle.std.specs.Option.{option_map_or}
use Rattle.logic_terms.specs.Concept.{Concept}
use Rattle.logic_terms.specs.Same.{has_concept}
use Rattle.logic_terms.specs.Theory.{Theory}
use Rattle.tableau_rules.specs.Graph.{Graph, label_at, parent_of}
use Rattle.tableau_rules.specs.Neighbours.{roots}

-- a node's ancestors from its parent up, at most so many of them
abbrev pub climb : ℕ → Graph → ℕ → List ℕ
climb zero g x = []
climb (suc n) g x = option_map_or (λ p. p ∷ climb n g p) (parent_of g x) []

-- a node's proper ancestors, its parent first; since each node's parent has a smaller number, there are at most x
abbrev pub ancestors : Graph → ℕ → List ℕ
ancestors g x = climb x g x

-- a node that is no name's
abbrev pub is_anonymous : Theory → ℕ → Bool
is_anonymous k x = not (nat_lt x (length (roots k)))

-- whether two lists have the same classes
abbrev pub same_classes : List Concept → List Concept → Bool
same_classes cs ds = list_all (has_concept ds) cs && list_all (has_concept cs) ds

-- whether one of these nodes is anonymous and has the classes of x
abbrev pub has_twin : Theory → Graph → ℕ → List ℕ → Bool
has_twin k g x above = list_any (λ z. is_anonymous k z && same_classes (label_at g x) (label_at g z)) above

-- whether some node of a way up is directly blocked: it is anonymous, no node above it is directly blocked, and an
-- anonymous one above it has the same classes
abbrev pub blocks : Theory → Graph → List ℕ → Bool
blocks k g [] = false
blocks k g (x ∷ above) = (is_anonymous k x && (has_twin k g x above && not (blocks k g above))) || blocks k g above

abbrev pub is_directly_blocked : Theory → Graph → ℕ → Bool
is_directly_blocked k g x = is_anonymous k x && (has_twin k g x (ancestors g x) && not (blocks k g (ancestors g x)))

-- a proper ancestor is directly blocked
abbrev pub is_indirectly_blocked : Theory → Graph → ℕ → Bool
is_indirectly_blocked k g x = blocks k g (ancestors g x)

abbrev pub is_blocked : Theory → Graph → ℕ → Bool
is_blocked k g x = is_directly_blocked k g x || is_indirectly_blocked k g x

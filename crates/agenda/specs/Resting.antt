-- Why no step by a rule applies at a node, as long as certain nodes stay as they are.
use Rattle.std.specs.Prelude.{ℕ, ◌≡◌, ◌<◌, ◌⊎◌, Bool, true, false, is_some, List, ◌∷◌, length, Some, None}
use Rattle.std.specs.List.{list_any, list_all}
use Rattle.logic_terms.specs.declared.expressions.Role.{Role}
use Rattle.logic_terms.specs.Concept.{Concept}
use Rattle.logic_terms.specs.Parts.{word_part, intersection_part, union_part, some_part, all_part, value_part}
use Rattle.logic_terms.specs.Same.{same_role, has_concept}
use Rattle.logic_terms.specs.Theory.{Theory}
use Rattle.tableau_rules.specs.declared.step.Rule.{Rule}
use Rattle.tableau_rules.specs.declared.step.Rule.TheVariants as rule
use Rattle.tableau_rules.specs.Carrying.{role_of_all, along, carriers}
use Rattle.tableau_rules.specs.Graph.{Graph, label_at, class_at}
use Rattle.tableau_rules.specs.Neighbours.{is_neighbour}
use Rattle.tableau_rules.specs.Blocking.{ancestors, is_blocked, is_indirectly_blocked}
use Rattle.tableau_rules.specs.Rules.{serves, site_at}

-- whether a rule may apply for a class: it applies for no class of another kind
abbrev pub reads : Rule → Concept → Bool
reads rule.And c = is_some (intersection_part c)
reads rule.Unfold c = is_some (word_part c)
reads rule.All c = is_some (all_part c)
reads rule.Trans c = is_some (role_of_all c)
reads rule.Value c = is_some (value_part c)
reads rule.Unit c = is_some (union_part c)
reads rule.Or c = is_some (union_part c)
reads rule.Some c = is_some (some_part c)

-- whether a label has a class for which a rule may apply
abbrev pub concerns : Rule → List Concept → Bool
concerns r label = list_any (reads r) label

-- a node and its ancestors
abbrev pub way_up : Graph → ℕ → List ℕ
way_up g x = x ∷ ancestors g x

-- whether a node waits for each of several nodes; `waits z x` says that x waits for z
abbrev pub waits_for : (ℕ → ℕ → Bool) → ℕ → List ℕ → Bool
waits_for waits x zs = list_all (λ z. waits z x) zs

-- what a rule that looks at neighbours found: by `All` and by `Trans` each neighbour has the class, or is indirectly blocked
-- and x waits for what blocks it; by `Some` x is blocked, or a neighbour serves and x waits for what may block it
abbrev pub RestsBy : Theory → Graph → (ℕ → ℕ → Bool) → ℕ → Rule → Type 0
RestsBy k g waits x rule.All =
    (place : ℕ) (c : Concept) (p : Role × Concept) → class_at g x place ≡ Some c → all_part c ≡ Some p
    → (is_indirectly_blocked k g x ≡ true)
    ⊎ ((y : ℕ) → is_neighbour k g p.0 x y ≡ true
    → (has_concept (label_at g y) p.1 ≡ true) ⊎ ((is_indirectly_blocked k g y ≡ true) × (waits_for waits x (way_up g y) ≡ true)))
RestsBy k g waits x rule.Trans =
    (place : ℕ) (c : Concept) (role : Role) → class_at g x place ≡ Some c → role_of_all c ≡ Some role
    → (is_indirectly_blocked k g x ≡ true)
    ⊎ ((t : Role) → list_any (λ s. same_role s t) (carriers k role) ≡ true → (y : ℕ) → is_neighbour k g t x y ≡ true
    → (has_concept (label_at g y) (along t c) ≡ true) ⊎ ((is_indirectly_blocked k g y ≡ true) × (waits_for waits x (way_up g y) ≡ true)))
RestsBy k g waits x rule.Some =
    (place : ℕ) (c : Concept) (p : Role × Concept) → class_at g x place ≡ Some c → some_part c ≡ Some p
    → (is_blocked k g x ≡ true) ⊎ ((y : ℕ) × (y < length g.nodes) × (serves k g p.0 p.1 x y ≡ true) × (waits_for waits x (way_up g y) ≡ true))
RestsBy k g waits x _ = Unit {0}

-- no step by a rule applies at a node, which waits for itself and for its ancestors
pub record IsResting (k : Theory) (g : Graph) (waits : ℕ → ℕ → Bool) (r : Rule) (x : ℕ) : Type 0 where
  pub none : (place : ℕ) → site_at k g r x place ≡ None
  pub own : waits_for waits x (way_up g x) ≡ true
  pub others : RestsBy k g waits x r

-- each node is due, or no class of its label concerns the rule, or it rests
abbrev pub Fits : Theory → Graph → Rule → (ℕ → Bool) → (ℕ → ℕ → Bool) → Type 0
Fits k g r due waits = (x : ℕ) → x < length g.nodes → (due x ≡ true) ⊎ ((concerns r (label_at g x) ≡ false) ⊎ IsResting k g waits r x)

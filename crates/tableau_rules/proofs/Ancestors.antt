-- The ancestors of a node where each parent comes before its child, and blocking by way of the parent.
use Rattle.std.proofs.Common.{◌≡◌, ℕ, zero, suc, ◌<◌, ◌≤◌, ◌⊎◌, false, [], ◌∷◌, Option, Some, None, refl, sym, ap, ◌∙◌, inl, inr, arith}
use Rattle.std.specs.Option.{option_map_or}
use Rattle.logic_terms.specs.Theory.{Theory}
use Rattle.tableau_rules.specs.Graph.{Graph, parent_of}
use Rattle.tableau_rules.specs.Blocking.{climb, ancestors, blocks, is_indirectly_blocked, is_blocked}
use Rattle.tableau_rules.proofs.Climbing.{climb-top}

pub climb-some : (n : ℕ) (g : Graph) (x p : ℕ) → parent_of g x ≡ Some p → climb (suc n) g x ≡ p ∷ climb n g p
climb-some n g x p up = ap (λ o. option_map_or (λ p. p ∷ climb n g p) o []) up

cases_parent : (o : Option ℕ) → (o ≡ None) ⊎ ((p : ℕ) × (o ≡ Some p))
cases_parent None = inl refl
cases_parent (Some p) = inr (p, refl)

pub parent_cases : (g : Graph) (x : ℕ) → (parent_of g x ≡ None) ⊎ ((p : ℕ) × (parent_of g x ≡ Some p))
parent_cases g x = cases_parent (parent_of g x)

pub ancestors-none : (g : Graph) (x : ℕ) → parent_of g x ≡ None → ancestors g x ≡ []
ancestors-none g x up = climb-top x g x up

-- a node without parent is not indirectly blocked
pub indirectly-none : (k : Theory) (g : Graph) (x : ℕ) → parent_of g x ≡ None → is_indirectly_blocked k g x ≡ false
indirectly-none k g x up = ap (blocks k g) (ancestors-none g x up)

-- x steps suffice to climb from x
climb_enough : (n m : ℕ) (g : Graph) → ((y q : ℕ) → parent_of g y ≡ Some q → q < y) → (x : ℕ) → x ≤ n → x ≤ m → climb n g x ≡ climb m g x
climb_enough zero m g down x low high = elim (parent_cases g x) [
  | inl up ↦ climb-top zero g x up ∙ sym (climb-top m g x up)
  | inr (p, up) ↦ (let lt = down x p up in absurd (omega arith))
]
climb_enough (suc n) zero g down x low high = elim (parent_cases g x) [
  | inl up ↦ climb-top (suc n) g x up ∙ sym (climb-top zero g x up)
  | inr (p, up) ↦ (let lt = down x p up in absurd (omega arith))
]
climb_enough (suc n) (suc m) g down x low high = elim (parent_cases g x) [
  | inl up ↦ climb-top (suc n) g x up ∙ sym (climb-top (suc m) g x up)
  | inr (p, up) ↦ (let lt = down x p up in
      climb-some n g x p up ∙ ap (λ l. p ∷ l) (climb_enough n m g down p (omega arith) (omega arith)) ∙ sym (climb-some m g x p up))
]

-- a node's ancestors are its parent and the parent's ancestors
pub ancestors-some : (g : Graph) → ((y q : ℕ) → parent_of g y ≡ Some q → q < y) → (x p : ℕ) → parent_of g x ≡ Some p → ancestors g x ≡ p ∷ ancestors g p
ancestors-some g down x p up = go x (down x p up) up
  where
    go : (y : ℕ) → p < y → parent_of g y ≡ Some p → climb y g y ≡ p ∷ climb p g p
    go zero lt at = absurd (omega arith)
    go (suc y) lt at = climb-some y g (suc y) p at ∙ ap (λ l. p ∷ l) (climb_enough y p g down p (omega arith) (omega arith))

-- a node with a parent is indirectly blocked where the parent is blocked
pub indirectly-some : (k : Theory) (g : Graph) → ((y q : ℕ) → parent_of g y ≡ Some q → q < y) → (x p : ℕ) → parent_of g x ≡ Some p
    → is_indirectly_blocked k g x ≡ is_blocked k g p
indirectly-some k g down x p up = ap (blocks k g) (ancestors-some g down x p up)

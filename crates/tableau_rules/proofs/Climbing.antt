-- The way up from a node, one step further.
use Rattle.std.proofs.Common.{◌≡◌, ℕ, zero, suc, ◌-◌, ◌<◌, ◌&&◌, ◌||◌, Bool, true, false, [], ◌∷◌, Some, None, refl, sym, ap, ◌∙◌, arith}
use Rattle.std.specs.Prelude.{not}
use Rattle.std.specs.Option.{option_map_or}
use Rattle.logic_terms.specs.Theory.{Theory}
use Rattle.tableau_rules.specs.Graph.{Graph, label_at, parent_of}
use Rattle.tableau_rules.specs.Blocking.{climb, has_twin, blocks, is_anonymous, same_classes}

pub climb-on : (left : ℕ) (g : Graph) (at parent : ℕ) → 0 < left → parent_of g at ≡ Some parent → climb left g at ≡ parent ∷ climb (left - 1) g parent
climb-on zero g at parent lt up = absurd (omega arith)
climb-on (suc n) g at parent lt up =
    ap (λ o. option_map_or (λ p. p ∷ climb n g p) o []) up ∙ ap (λ m. parent ∷ climb m g parent) (less n)
  where
    less : (n : ℕ) → n ≡ suc n - 1
    less n = omega arith

pub climb-top : (left : ℕ) (g : Graph) (at : ℕ) → parent_of g at ≡ None → climb left g at ≡ []
climb-top zero g at up = refl
climb-top (suc n) g at up = ap (λ o. option_map_or (λ p. p ∷ climb n g p) o []) up

module _ (k : Theory) (g : Graph) (node at left : ℕ) (r : Bool) (now : r ≡ has_twin k g node (climb left g at)) where
  pub twin_top : parent_of g at ≡ None → false ≡ r
  twin_top up = sym (now ∙ ap (has_twin k g node) (climb-top left g at up))

  twin_on : (parent : ℕ) (b : Bool) → 0 < left → parent_of g at ≡ Some parent
      → (is_anonymous k parent && same_classes (label_at g node) (label_at g parent)) ≡ b → r ≡ (b || has_twin k g node (climb (left - 1) g parent))
  twin_on parent b lt up is =
      now ∙ (ap (has_twin k g node) (climb-on left g at parent lt up) ∙ ap (λ z. z || has_twin k g node (climb (left - 1) g parent)) is)

  pub twin_here : (parent : ℕ) → 0 < left → parent_of g at ≡ Some parent → (is_anonymous k parent && same_classes (label_at g node) (label_at g parent)) ≡ true
      → true ≡ r
  twin_here parent lt up is = sym (twin_on parent true lt up is)

  pub twin_passed : (parent : ℕ) → 0 < left → parent_of g at ≡ Some parent
      → (is_anonymous k parent && same_classes (label_at g node) (label_at g parent)) ≡ false → r ≡ has_twin k g node (climb (left - 1) g parent)
  twin_passed parent lt up is = twin_on parent false lt up is

first_blocks : (a t b c : Bool) → (a && t) ≡ c → ((a && (t && not b)) || b) ≡ (c || b)
first_blocks true true true c e = ap (λ z. z || true) e
first_blocks true true false c e = ap (λ z. z || false) e
first_blocks true false b c e = ap (λ z. z || b) e
first_blocks false t b c e = ap (λ z. z || b) e

module _ (k : Theory) (g : Graph) (at left : ℕ) (r : Bool) (now : r ≡ blocks k g (climb left g at)) where
  pub block_top : parent_of g at ≡ None → false ≡ r
  block_top up = sym (now ∙ ap (blocks k g) (climb-top left g at up))

  block_on : (parent : ℕ) (c : Bool) → 0 < left → parent_of g at ≡ Some parent → (is_anonymous k parent && has_twin k g parent (climb (left - 1) g parent)) ≡ c
      → r ≡ (c || blocks k g (climb (left - 1) g parent))
  block_on parent c lt up is =
      now ∙ (ap (blocks k g) (climb-on left g at parent lt up)
      ∙ first_blocks (is_anonymous k parent) (has_twin k g parent (climb (left - 1) g parent)) (blocks k g (climb (left - 1) g parent)) c is)

  pub block_here : (parent : ℕ) → 0 < left → parent_of g at ≡ Some parent → (is_anonymous k parent && has_twin k g parent (climb (left - 1) g parent)) ≡ true
      → true ≡ r
  block_here parent lt up is = sym (block_on parent true lt up is)

  pub block_passed : (parent : ℕ) → 0 < left → parent_of g at ≡ Some parent → (is_anonymous k parent && has_twin k g parent (climb (left - 1) g parent)) ≡ false
      → r ≡ blocks k g (climb (left - 1) g parent)
  block_passed parent lt up is = block_on parent false lt up is

pub directly : (a t b : Bool) → ((a && t) && not b) ≡ (a && (t && not b))
directly true t b = refl
directly false t b = refl

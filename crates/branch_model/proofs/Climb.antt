-- Blocking, by way of parents: a node is indirectly blocked where its parent is blocked.
use Rattle.std.proofs.Common.{◌≡◌, ℕ, ◌<◌, ◌≤◌, ◌&&◌, ◌||◌, true, false, length, Some, None, sym, ap, ◌∙◌, subst, arith}
use Rattle.std.specs.Prelude.{not}
use Rattle.std.proofs.lemmas.Bool.{and_parts, or_parts, not-true, le-ltb, lt-ltb}
use Rattle.tableau_rules.proofs.Ancestors.{ancestors-some, ancestors-none, indirectly-some}
use Rattle.logic_terms.specs.Theory.{Theory}
use Rattle.tableau_rules.specs.Graph.{Graph, label_at, parent_of}
use Rattle.tableau_rules.specs.Neighbours.{roots}
use Rattle.branch_model.specs.Elements.{ParentsBelow, IsTwin}
use Rattle.tableau_rules.specs.Blocking.{ancestors, is_anonymous, same_classes, has_twin, blocks, is_directly_blocked, is_indirectly_blocked, is_blocked}

-- one step up in search of a twin: the parent is one, or one is above it
pub twin_step : (k : Theory) (g : Graph) → ParentsBelow g → (x y p : ℕ) → parent_of g y ≡ Some p → has_twin k g x (ancestors g y) ≡ true
    → is_indirectly_blocked k g y ≡ false → (is_anonymous k p && same_classes (label_at g x) (label_at g p)) ≡ false
    → (has_twin k g x (ancestors g p) ≡ true) × (is_indirectly_blocked k g p ≡ false)
twin_step k g down x y p up twin free other =
    let here : ((is_anonymous k p && same_classes (label_at g x) (label_at g p)) || has_twin k g x (ancestors g p)) ≡ true =
    sym (ap (has_twin k g x) (ancestors-some g down y p up)) ∙ twin in
    let above : is_blocked k g p ≡ false = sym (indirectly-some k g down y p up) ∙ free in
    (sym (ap (λ b. b || has_twin k g x (ancestors g p)) other) ∙ here, (or_parts (is_directly_blocked k g p) (is_indirectly_blocked k g p) above).1)

-- the directly blocked node has a parent to go on from
pub twin_top : (k : Theory) (g : Graph) (x y : ℕ) → parent_of g y ≡ None → has_twin k g x (ancestors g y) ≡ true → ⊥
twin_top k g x y up twin = let none : has_twin k g x (ancestors g y) ≡ false = ap (has_twin k g x) (ancestors-none g y up) in cc

pub twin_here : (k : Theory) (g : Graph) → ParentsBelow g → (x y p : ℕ) → y ≤ x → parent_of g y ≡ Some p → is_indirectly_blocked k g y ≡ false
    → (is_anonymous k p && same_classes (label_at g x) (label_at g p)) ≡ true → IsTwin k g x p
twin_here k g down x y p low up free is =
    let two = and_parts (is_anonymous k p) (same_classes (label_at g x) (label_at g p)) is in
    let lt = down y p up in
    record {
      before = omega arith;
      anonymous = two.0;
      same = two.1;
      unblocked = sym (indirectly-some k g down y p up) ∙ free;
    }

-- what a directly blocked node has
pub directly_parts : (k : Theory) (g : Graph) (x : ℕ) → is_directly_blocked k g x ≡ true
    → (is_anonymous k x ≡ true) × ((has_twin k g x (ancestors g x) ≡ true) × (is_indirectly_blocked k g x ≡ false))
directly_parts k g x h =
    let one = and_parts (is_anonymous k x) (has_twin k g x (ancestors g x) && not (blocks k g (ancestors g x))) h in
    let two = and_parts (has_twin k g x (ancestors g x)) (not (blocks k g (ancestors g x))) one.1 in
    (one.0, (two.0, not-true (blocks k g (ancestors g x)) two.1))

-- a node from the number of the roots on is anonymous, and none below it
pub anonymous_from : (k : Theory) (n x : ℕ) → n ≡ length (roots k) → n ≤ x → is_anonymous k x ≡ true
anonymous_from k n x count le = ap not (le-ltb x (length (roots k)) (subst (λ m. m ≤ x) count le))

pub named_from : (k : Theory) (n x : ℕ) → n ≡ length (roots k) → x < n → is_anonymous k x ≡ false
named_from k n x count lt = ap not (lt-ltb x (length (roots k)) (subst (λ m. x < m) count lt))

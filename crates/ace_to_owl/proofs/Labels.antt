-- Members get labels, such that two have one label where edges connect them.
use Rattle.std.proofs.Common.{◌≡◌, ℕ, zero, suc, drop, ◌==◌, ◌+◌, ◌&&◌, ◌||◌, Bool, true, false, Some, None, List, [], ◌∷◌, ◌++◌, refl, sym, ap, ◌∙◌}
use Rattle.std.specs.Prelude.{if◌then◌else◌}
use Rattle.std.proofs.lemmas.Bool.{eq-eqb, ne_eqb, or_right, eqb-true, both_ways}
use Rattle.ace_to_owl.specs.Moves.{moved, moved_by}
use Rattle.ace_to_owl.specs.Parts.{Part, At, Edge, connected, has_cycle, each_reached, tree_fault}
use Rattle.std.specs.List.{list_all}
use Rattle.std.proofs.Math.Bool.{or-false, and-false, and-true}
use Rattle.wiki_base.specs.declared.numbers.WordId.{WordId}
use Rattle.wiki_base.proofs.NumberLaws.{eqb_comm}
use Rattle.logic_terms.specs.Concept.{Concept}
use Rattle.logic_terms.specs.declared.cause.Cause.TheVariants.{Cycle, NoRoot}

-- each edge moves the label of its first end to that of its second
abbrev pub label : List Part → ℕ → ℕ
label [] n = n
label (At k c ∷ ps) n = label ps n
label (Edge word a b ∷ ps) n = moved (label ps a) (label ps b) (label ps n)

chosen_same : (p q e x y : Bool) (b n m : ℕ) → (p ≡ true → q ≡ true → e ≡ true) → (p ≡ true → q ≡ false → e ≡ false) → (p ≡ false → q ≡ true → e ≡ false)
    → e ≡ (n == m) → ((if p then b else n) == (if q then b else m)) ≡ (e || ((p && (b == m)) || ((n == b) && q)))
chosen_same true true e x y b n m tt_ tf ft ff = eq-eqb b b refl ∙ sym (ap (λ z. z || ((b == m) || ((n == b) && true))) (tt_ refl refl))
chosen_same true false e x y b n m tt_ tf ft ff =
    sym (ap (λ z. z || ((b == m) || ((n == b) && false))) (tf refl refl) ∙ (ap (λ z. (b == m) || z) (and-false (n == b)) ∙ or-false (b == m)))
chosen_same false true e x y b n m tt_ tf ft ff = sym (ap (λ z. z || ((n == b) && true)) (ft refl refl) ∙ and-true (n == b))
chosen_same false false e x y b n m tt_ tf ft ff = sym (ap (λ z. e || z) (and-false (n == b)) ∙ (or-false e ∙ ff))

-- numbers are one after a move where they were, or where one is moved to the other
moved_same : (a b n m : ℕ) → (moved a b n == moved a b m) ≡ ((n == m) || (((n == a) && (b == m)) || ((n == b) && (a == m))))
moved_same a b n m =
    chosen_same (n == a) (m == a) (n == m) true true b n m
    (λ p q. eq-eqb n m (eqb-true n a p ∙ sym (eqb-true m a q)))
    (λ p q. ne_eqb n m (λ e. both_ways (m == a) q (eq-eqb m a (sym e ∙ eqb-true n a p))))
    (λ p q. ne_eqb n m (λ e. both_ways (n == a) p (eq-eqb n a (e ∙ eqb-true m a q))))
    refl
    ∙ ap (λ z. (n == m) || (((n == a) && (b == m)) || ((n == b) && z))) (eqb_comm m a)

pub connected-label : (ps : List Part) (n m : ℕ) → connected ps n m ≡ (label ps n == label ps m)
connected-label [] n m = refl
connected-label (At k c ∷ ps) n m = connected-label ps n m
connected-label (Edge word a b ∷ ps) n m =
    (λ j. connected-label ps n m j || ((connected-label ps n a j && connected-label ps b m j) || (connected-label ps n b j && connected-label ps a m j)))
    ∙ sym (moved_same (label ps a) (label ps b) (label ps n) (label ps m))

pub moved_by-append : (es : List (ℕ × ℕ)) (a b n : ℕ) → moved_by (es ++ (a, b) ∷ []) n ≡ moved a b (moved_by es n)
moved_by-append [] a b n = refl
moved_by-append (e ∷ es) a b n = moved_by-append es a b (moved e.0 e.1 n)

-- a cycle among the last parts is one among all
pub has_cycle-drop : (k : ℕ) (ps : List Part) → has_cycle (drop k ps) ≡ true → has_cycle ps ≡ true
has_cycle-drop zero ps h = h
has_cycle-drop (suc k) [] h = h
has_cycle-drop (suc k) (At n c ∷ ps) h = has_cycle-drop k ps h
has_cycle-drop (suc k) (Edge word a b ∷ ps) h = or_right (connected ps a b) (has_cycle ps) (has_cycle-drop k ps h)

-- what a walk from the last part to the first knows when it comes to an edge
module _ (word : WordId) (a b : ℕ) (ps D : List Part) (ms : List (ℕ × ℕ)) (here : ps ≡ Edge word a b ∷ D) (labels : (n : ℕ) → moved_by ms n ≡ label D n) where
  pub labels_on : (old new : ℕ) → old ≡ moved_by ms a → new ≡ moved_by ms b → (n : ℕ) → moved_by (ms ++ (old, new) ∷ []) n ≡ label ps n
  labels_on old new from to n =
      moved_by-append ms old new n
      ∙ (λ j. moved ((from ∙ labels a) j) ((to ∙ labels b) j) (labels n j))
      ∙ sym (ap (λ qs. label qs n) here)

  pub cycle_here : (old new : ℕ) → old ≡ moved_by ms a → new ≡ moved_by ms b → old ≡ new → has_cycle ps ≡ true
  cycle_here old new from to same =
      ap has_cycle here
      ∙ ap (λ c. c || has_cycle D)
      (connected-label D a b ∙ eq-eqb (label D a) (label D b) (sym (from ∙ labels a) ∙ same ∙ to ∙ labels b))

  pub forest_on : (old new : ℕ) → old ≡ moved_by ms a → new ≡ moved_by ms b → (old ≡ new → ⊥) → has_cycle D ≡ false → has_cycle ps ≡ false
  forest_on old new from to differ forest =
      ap has_cycle here
      ∙ ap (λ c. c || has_cycle D)
      (connected-label D a b ∙ ne_eqb (label D a) (label D b) (λ e. differ ((from ∙ labels a) ∙ e ∙ sym (to ∙ labels b))))
      ∙ forest

-- and when it comes to a class
pub labels_past : (k : ℕ) (c : Concept) (ps D : List Part) (ms : List (ℕ × ℕ)) → ps ≡ At k c ∷ D → ((n : ℕ) → moved_by ms n ≡ label D n) → (n : ℕ)
    → moved_by ms n ≡ label ps n
labels_past k c ps D ms here labels n = labels n ∙ sym (ap (λ qs. label qs n) here)

-- which members are reached, by their labels
pub reached_by_labels : (rs : List ℕ) (ps : List Part) (ms : List (ℕ × ℕ)) → ((n : ℕ) → moved_by ms n ≡ label ps n)
    → list_all (λ q. moved_by ms 0 == moved_by ms (q + 1)) rs ≡ each_reached rs ps
reached_by_labels rs ps ms labels =
    ap (λ test. list_all test rs) (λ j q. ((λ i. labels 0 i == labels (q + 1) i) ∙ sym (connected-label ps 0 (q + 1))) j)

-- what is wrong with the parts, by the two tests
pub fault_cycle : (rs : List ℕ) (ps : List Part) → has_cycle ps ≡ true → tree_fault rs ps ≡ Some Cycle
fault_cycle rs ps cycle = ap (λ b. if b then Some Cycle else if each_reached rs ps then None else Some NoRoot) cycle

pub fault_reached : (rs : List ℕ) (ps : List Part) (b : Bool) → has_cycle ps ≡ false → each_reached rs ps ≡ b
    → tree_fault rs ps ≡ (if b then None else Some NoRoot)
fault_reached rs ps b forest reached =
    ap (λ c. if c then Some Cycle else if each_reached rs ps then None else Some NoRoot) forest
    ∙ ap (λ c. if c then None else Some NoRoot) reached

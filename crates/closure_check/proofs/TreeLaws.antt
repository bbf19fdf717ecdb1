-- Trees, one layer at a time.
use Rattle.std.proofs.Common.{◌≡◌, ℕ, suc, ◌+◌, ◌-◌, ◌≤◌, ◌&&◌, Bool, true, false, List, [], ◌∷◌, ◌++◌, map, length, take, get_or, sym, ap, ◌∙◌, add-zero, zero-add, arith}
use Rattle.std.proofs.Math.Bool.{and-true, and_assoc}
use Rattle.std.proofs.lemmas.Bool.{eq-eqb, ne_eqb, and_right}
use Rattle.std.proofs.lemmas.List.{take_all, take_more, length-take-le}
use Rattle.logic_terms.specs.Theory.{Theory}
use Rattle.tableau_rules.specs.declared.step.Clash.{Clash}
use Rattle.tableau_rules.specs.declared.step.Step.{Step}
use Rattle.tableau_rules.specs.declared.step.Closed.{Closed}
use Rattle.tableau_rules.specs.declared.step.Closed.TheOpen as layers
use Rattle.tableau_rules.specs.declared.step.Closed.TheVariants as closed
use Rattle.tableau_rules.specs.declared.step.Closed.TheFolds.{fold-roll-Closed}
use Rattle.tableau_rules.specs.Graph.{Graph}
use Rattle.tableau_rules.specs.Rules.{applies, choices, after}
use Rattle.closure_check.specs.Firsts.{close_firsts}
use Rattle.tableau_rules.specs.Trees.{Tree, ends, splits, trees_from, tree_layer, tree_of, closes, close_from}

pub tree_of-Clash : (c : Clash) → tree_of (closed.Clash c) ≡ ends c
tree_of-Clash c = ap tree_of (sym (closed.rolls-Clash c)) ∙ fold-roll-Closed Tree tree_layer (layers.Clash c)

pub tree_of-Step : (s : Step) (ts : List Closed) → tree_of (closed.Step s ts) ≡ splits s (trees_from (map tree_of ts))
tree_of-Step s ts = ap tree_of (sym (closed.rolls-Step s ts)) ∙ fold-roll-Closed Tree tree_layer (layers.Step s ts)

module _ (k : Theory) (g : Graph) where
  closes_step : (t : Closed) (s : Step) (ts : List Closed) → t ≡ closed.Step s ts
      → closes k g (tree_of t) ≡ (applies k g s && close_from k g s 0 (trees_from (map tree_of ts)))
  closes_step t s ts e = ap (λ u. closes k g (tree_of u)) e ∙ ap (closes k g) (tree_of-Step s ts)

  -- what is left of the subtrees decides
  abbrev pub close_left : Step → ℕ → List Closed → Bool
  close_left s n ts = close_from k g s n (trees_from (map tree_of ts))

  pub step_begins : (t : Closed) (s : Step) (ts us : List Closed) → t ≡ closed.Step s ts → us ≡ ts → applies k g s ≡ true
      → closes k g (tree_of t) ≡ close_left s 0 us
  step_begins t s ts us e given is =
      closes_step t s ts e ∙ (ap (λ b. b && close_left s 0 ts) is ∙ ap (close_left s 0) (sym given))

  pub step_fails : (t : Closed) (s : Step) (ts : List Closed) → t ≡ closed.Step s ts → applies k g s ≡ false → closes k g (tree_of t) ≡ false
  step_fails t s ts e is = closes_step t s ts e ∙ ap (λ b. b && close_left s 0 ts) is

module _ (k : Theory) (g : Graph) (s : Step) where
  count_on : (n m : ℕ) → (n + 1) + m ≡ n + suc m
  count_on n m = omega arith

  -- with another number of trees than choices a step closes nothing
  pub wrong_count : (n : ℕ) (ts : List Closed) → (n + length ts ≡ choices g s → ⊥) → close_left k g s n ts ≡ false
  wrong_count n [] other = ne_eqb n (choices g s) (λ same. other (add-zero n ∙ same))
  wrong_count n (t ∷ ts) other =
      and_right (closes k (after k g s n) (tree_of t)) (close_left k g s (n + 1) ts)
      (wrong_count (n + 1) ts (λ same. other (sym (count_on n (length ts)) ∙ same)))

  -- the choices before the last one, and the last one
  pub last_decides : (n : ℕ) (ts : List Closed) (t : Closed) → n + (length ts + 1) ≡ choices g s
      → close_left k g s n (ts ++ t ∷ []) ≡ (close_firsts k g s n (map tree_of ts) && closes k (after k g s (n + length ts)) (tree_of t))
  last_decides n [] t count =
      ap (λ b. closes k (after k g s n) (tree_of t) && b) (eq-eqb (n + 1) (choices g s) count)
      ∙ (and-true (closes k (after k g s n) (tree_of t)) ∙ ap (λ m. closes k (after k g s m) (tree_of t)) (sym (add-zero n)))
  last_decides n (u ∷ us) t count =
      ap (λ b. closes k (after k g s n) (tree_of u) && b) (last_decides (n + 1) us t (counted n (length us) (choices g s) count))
      ∙ (sym (and_assoc (closes k (after k g s n) (tree_of u)) (close_firsts k g s (n + 1) (map tree_of us))
      (closes k (after k g s ((n + 1) + length us)) (tree_of t)))
      ∙ ap (λ m. (closes k (after k g s n) (tree_of u) && close_firsts k g s (n + 1) (map tree_of us)) && closes k (after k g s m) (tree_of t))
      (count_on n (length us)))
    where
      counted : (n m c : ℕ) → n + (suc m + 1) ≡ c → (n + 1) + (m + 1) ≡ c
      counted n m c e = omega arith

  -- a step without choices closes a branch
  pub none_needed : (ts : List Closed) → length ts ≡ 0 → 0 ≡ choices g s → close_left k g s 0 ts ≡ true
  none_needed [] none count = eq-eqb 0 (choices g s) count
  none_needed (t ∷ ts) none count = absurd (omega arith)

whole : (ts : List Closed) (x : Closed) → 1 ≤ length ts → x ≡ get_or ts (length ts - 1) x → ts ≡ take (length ts - 1) ts ++ x ∷ []
whole ts x some at =
    sym (take_all ((length ts - 1) + 1) ts (omega arith))
    ∙ (take_more ts (length ts - 1) x (omega arith) ∙ ap (λ y. take (length ts - 1) ts ++ y ∷ []) (sym at))

-- a step whose last choice goes on
module _ (k : Theory) (g : Graph) (s : Step) (ts slice : List Closed) (x : Closed) (given : slice ≡ ts) (some : 1 ≤ length slice)
    (at : x ≡ get_or slice (length slice - 1) x) where
  pub last_left : (t : Closed) → t ≡ closed.Step s ts → applies k g s ≡ true → choices g s ≡ length ts
      → closes k g (tree_of t) ≡ (close_firsts k g s 0 (map tree_of (take (length slice - 1) slice))
      && closes k (after k g s (length (take (length slice - 1) slice))) (tree_of x))
  last_left t e is count =
      step_begins k g t s ts slice e given is
      ∙ (ap (close_left k g s 0) (whole slice x some at)
      ∙ (last_decides k g s 0 (take (length slice - 1) slice) x
      (counted (length slice) (length (take (length slice - 1) slice)) (choices g s) some firsts (count ∙ ap length (sym given)))
      ∙ ap (λ n. close_firsts k g s 0 (map tree_of (take (length slice - 1) slice)) && closes k (after k g s n) (tree_of x))
      (zero-add (length (take (length slice - 1) slice)))))
    where
      firsts : length (take (length slice - 1) slice) ≡ length slice - 1
      firsts = length-take-le (length slice - 1) slice (omega arith)

      counted : (n m c : ℕ) → 1 ≤ n → m ≡ n - 1 → c ≡ n → 0 + (m + 1) ≡ c
      counted n m c some e f = omega arith

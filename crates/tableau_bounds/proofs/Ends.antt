-- The systematic search ends: no branch has more nodes, and no search more applications, than the bounds say.
use Rattle.std.proofs.Common.{◌≡◌, ℕ, suc, ◌+◌, ◌-◌, ◌*◌, ◌^◌, ◌<◌, ◌≤◌, ◌==◌, true, false, List, [], ◌∷◌, length, Option, Some, None, refl, sym, ap, ◌∙◌, subst, inl, inr, arith, mul-le-mul_right, mul-le-mul_left, mul-add, mul-one}
use Rattle.std.specs.Prelude.{nat_lt}
use Rattle.std.specs.Option.{option_map_or, option_and_then}
use Rattle.std.proofs.lemmas.Bool.{cases_lt, le-ltb, not_from_false}
use Rattle.tableau_rules.proofs.Labels.{has_here}
use Rattle.tableau_rules.proofs.Ancestors.{ancestors-none}
use Rattle.logic_terms.specs.Concept.{Concept}
use Rattle.logic_terms.specs.Parts.{union_part}
use Rattle.logic_terms.specs.Same.{has_concept}
use Rattle.logic_terms.specs.Theory.{Theory}
use Rattle.tableau_rules.specs.declared.step.Rule.{Rule}
use Rattle.tableau_rules.specs.declared.step.Rule.TheVariants as rule
use Rattle.tableau_rules.specs.declared.step.Step.{Step}
use Rattle.tableau_rules.specs.Graph.{Graph, label_at, class_at, parent_of}
use Rattle.tableau_rules.specs.Neighbours.{roots}
use Rattle.tableau_rules.specs.Blocking.{is_anonymous}
use Rattle.tableau_rules.specs.Rules.{site, choices_for, choices, applies, after}
use Rattle.tableau_rules.specs.Branches.{start, IsBranch, begun, stepped}
use Rattle.tableau_rules.specs.Searching.{IsLonger}
use Rattle.tableau_bounds.specs.Enough.{class_occurrences, class_count, most_nodes, enough}
use Rattle.tableau_bounds.proofs.Parts.{Within, union_few}
use Rattle.tableau_bounds.proofs.Labels.{Unique}
use Rattle.tableau_bounds.proofs.Stepping.{UnionsHaveMembers, ParentsBelow, IsStep, after_step}
use Rattle.tableau_bounds.proofs.Sums.{total, total_most}
use Rattle.tableau_bounds.proofs.Rank.{rank, rank_up, rank_most}
use Rattle.tableau_bounds.proofs.Ways.{depth, unblocked_low}
use Rattle.tableau_bounds.proofs.Nodes.{tree_size, tree_size_most, used, room, all_room, room_kept}
use Rattle.tableau_bounds.proofs.Beginning.{start_within, start_unique, start_parent, start_roots}
use Rattle.tableau_bounds.proofs.SearchBound.{IsRanked, longer_less}

-- so many nodes may stand below a first one on a way down
abbrev pub most_deep : Theory → ℕ
most_deep k = 2 ^ class_count k + 1

-- what each branch keeps
pub record IsBounded (k : Theory) (g : Graph) : Type 0 where
  pub within : (y : ℕ) → Within (label_at g y) (class_occurrences k)
  pub unique : (y : ℕ) → Unique (label_at g y)
  pub down : ParentsBelow g
  pub first : length (start k).nodes ≤ length g.nodes
  pub made : (y p : ℕ) → parent_of g y ≡ Some p → length (start k).nodes ≤ y
  pub room : all_room k (most_deep k) g ≤ length (start k).nodes * tree_size (class_count k) (suc (most_deep k))

module _ (k : Theory) where
  none_made : (y p : ℕ) → parent_of (start k) y ≡ Some p → ⊥
  none_made y p up = let none : None ≡ Some p = sym (start_parent k y) ∙ up in cc

  begun_bounded : IsBounded k (start k)
  begun_bounded = record {
    within = start_within k;
    unique = start_unique k;
    down = λ y p up. absurd (none_made y p up);
    first = le_self (length (start k).nodes);
    made = λ y p up. absurd (none_made y p up);
    room = sum (length (start k).nodes) (class_count k * tree_size (class_count k) (most_deep k))
        (total (room k (most_deep k) (start k)) (length (start k).nodes))
        (total_most (room k (most_deep k) (start k)) (length (start k).nodes) (class_count k * tree_size (class_count k) (most_deep k)) (λ y lt. each y));
  }
    where
      le_self : (n : ℕ) → n ≤ n
      le_self n = omega arith

      each : (y : ℕ) → room k (most_deep k) (start k) y ≤ class_count k * tree_size (class_count k) (most_deep k)
      each y =
          subst (λ z. (class_count k - used k (start k) y) * tree_size (class_count k) z ≤ class_count k * tree_size (class_count k) (most_deep k))
          (sym (top (depth (start k) y) (ap length (ancestors-none (start k) y (start_parent k y)))))
          (mul-le-mul_right (tree_size (class_count k) (most_deep k)) (less (class_count k) (used k (start k) y)))
        where
          top : (d : ℕ) → d ≡ 0 → most_deep k - d ≡ most_deep k
          top d none = omega arith

          less : (a b : ℕ) → a - b ≤ a
          less a b = omega arith

      sum : (n q t : ℕ) → t ≤ n * q → n + t ≤ n * (1 + q)
      sum n q t le = let all : n * (1 + q) ≡ n * 1 + n * q = mul-add n 1 q in let one : n * 1 ≡ n = mul-one n in omega arith

  made_anonymous : (g : Graph) → IsBounded k g → (y p : ℕ) → parent_of g y ≡ Some p → is_anonymous k y ≡ true
  made_anonymous g bounded y p up =
      not_from_false (nat_lt y (length (roots k)))
      (le-ltb y (length (roots k)) (through (length (roots k)) (length (start k).nodes) y (start_roots k) (bounded.made y p up)))
    where
      through : (a b c : ℕ) → a ≤ b → b ≤ c → a ≤ c
      through a b c le up = omega arith

  step_bounded : (g h : Graph) → IsBounded k g → IsStep k g h → IsBounded k h
  step_bounded g h bounded step = record {
    within = step.within bounded.within;
    unique = step.unique bounded.unique;
    down = step.down bounded.down;
    first = through (length (start k).nodes) (length g.nodes) (length h.nodes) bounded.first step.nodes;
    made = λ y p up. elim (cases_lt y (length g.nodes)) [
      | inl old ↦ bounded.made y p (sym (step.parents y old) ∙ up)
      | inr new ↦ through (length (start k).nodes) (length g.nodes) y bounded.first new
    ];
    room = through (all_room k (most_deep k) h) (all_room k (most_deep k) g) (length (start k).nodes * tree_size (class_count k) (suc (most_deep k)))
        (room_kept k g h step bounded.down bounded.within bounded.unique (most_deep k)
        (λ x free. next (depth g x) (2 ^ class_count k) (unblocked_low k g bounded.within bounded.down (made_anonymous g bounded) x free)))
        bounded.room;
  }
    where
      through : (a b c : ℕ) → a ≤ b → b ≤ c → a ≤ c
      through a b c le up = omega arith

      next : (a b : ℕ) → a ≤ b → a < b + 1
      next a b le = omega arith

  -- no branch has more nodes
  pub bounded_nodes : (g : Graph) → IsBounded k g → length g.nodes ≤ most_nodes k
  bounded_nodes g bounded =
      sum (length g.nodes) (total (room k (most_deep k) g) (length g.nodes)) (length (start k).nodes * tree_size (class_count k) (suc (most_deep k)))
      (most_nodes k) bounded.room
      (mul-le-mul_left (length (start k).nodes) (tree_size_most (class_count k) (most_deep k)))
    where
      sum : (a t b c : ℕ) → a + t ≤ b → b ≤ c → a ≤ c
      sum a t b c le up = omega arith

  module _ (filled : UnionsHaveMembers k) where
    pub branch_bounded : (g : Graph) → IsBranch k g → IsBounded k g
    branch_bounded _ begun = begun_bounded
    branch_bounded _ (stepped g s choice branch on lt) =
        let before = branch_bounded g branch in
        step_bounded g (after k g s choice) before (after_step k g filled before.within s choice on lt)

    choices_few : (g : Graph) → IsBounded k g → (s : Step) → applies k g s ≡ true → choices g s < class_count k + 1
    choices_few g bounded s on = go (class_at g s.node s.class) refl on
      where
        some_class : (c : Concept) (cs : List Concept) → has_concept cs c ≡ true → 1 ≤ length cs
        some_class c [] h = cc
        some_class c (d ∷ ds) h = omega arith

        one : (m : ℕ) → 1 ≤ m → 1 < m + 1
        one m le = omega arith

        few : (a m : ℕ) → a ≤ m → a < m + 1
        few a m le = omega arith

        of_union : (c : Concept) → has_concept (class_occurrences k) c ≡ true → (o : Option (List Concept)) → union_part c ≡ o
            → option_map_or length o 1 < class_count k + 1
        of_union c h None part = one (class_count k) (some_class c (class_occurrences k) h)
        of_union c h (Some cs) part = few (length cs) (class_count k) (union_few k c cs h part)

        by_rule : (r : Rule) (c : Concept) → has_concept (class_occurrences k) c ≡ true → choices_for r c < class_count k + 1
        by_rule rule.Or c h = of_union c h (union_part c) refl
        by_rule _ c h = one (class_count k) (some_class c (class_occurrences k) h)

        go : (o : Option Concept) → class_at g s.node s.class ≡ o → option_map_or (λ y. y == s.other) (option_and_then (site k g s.rule s.node) o) false ≡ true
            → option_map_or (choices_for s.rule) o 1 < class_count k + 1
        go None at e = cc
        go (Some c) at e = by_rule s.rule c (bounded.within s.node c (has_here (label_at g s.node) s.class c at))

    ranked : IsRanked k (rank k) (class_count k + 1) (most_nodes k * (2 * class_count k + 1))
    ranked = record {
      base = pos (class_count k);
      most = λ g branch. let bounded = branch_bounded g branch in rank_most k g bounded.within bounded.unique (most_nodes k) (bounded_nodes g bounded);
      rises = λ g s n branch on lt. up (rank k g) (rank k (after k g s n))
          (rank_up k g (after k g s n) (after_step k g filled (branch_bounded g branch).within s n on lt));
      few = λ g s branch on. choices_few g (branch_bounded g branch) s on;
    }
      where
        pos : (m : ℕ) → 0 < m + 1
        pos m = omega arith

        up : (a b : ℕ) → a + 1 ≤ b → a < b
        up a b le = omega arith

    -- a search that has not ended after so many applications has made fewer than enough
    pub longer_than_enough : (n : ℕ) → IsLonger k n → n < enough k
    longer_than_enough = longer_less k (rank k) (class_count k + 1) (most_nodes k * (2 * class_count k + 1)) ranked

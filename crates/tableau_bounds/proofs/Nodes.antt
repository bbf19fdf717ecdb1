-- How many nodes a branch has: each class of some successor makes at most one child of its node, and no node stands deeper
-- than the ways up from unblocked nodes allow.
use Rattle.std.proofs.Common.{◌≡◌, ℕ, zero, suc, ◌+◌, ◌-◌, ◌*◌, ◌^◌, ◌<◌, ◌≤◌, ◌==◌, ◌&&◌, Bool, true, false, length, Option, Some, None, refl, sym, ap, ◌∙◌, subst, arith, pow-suc, mul-le-mul_right, mul-le-mul_left, mul-suc, suc-mul, mul-zero, mul_comm}
use Rattle.std.specs.Prelude.{not}
use Rattle.std.proofs.Math.Nat.{pow-zero}
use Rattle.std.proofs.lemmas.Bool.{and_from, and_parts, eq-eqb, eqb-true, false_from_ne_true, not_from_false}
use Rattle.wiki_base.proofs.BoolLaws.{not_both}
use Rattle.tableau_rules.proofs.Ancestors.{ancestors-some, indirectly-some}
use Rattle.logic_terms.specs.declared.expressions.Role.{Role}
use Rattle.logic_terms.specs.Concept.{Concept}
use Rattle.logic_terms.specs.Meaning.{some_below}
use Rattle.logic_terms.specs.Parts.{some_part}
use Rattle.logic_terms.specs.Same.{has_concept}
use Rattle.logic_terms.specs.Theory.{Theory}
use Rattle.logic_terms.proofs.Places.{some_below_passes}
use Rattle.tableau_rules.specs.Graph.{Graph, label_at, parent_of}
use Rattle.tableau_rules.specs.Neighbours.{is_neighbour}
use Rattle.tableau_rules.specs.Clashes.{passes}
use Rattle.tableau_rules.specs.Blocking.{is_blocked, is_indirectly_blocked}
use Rattle.tableau_rules.specs.Rules.{serves}
use Rattle.tableau_rules.proofs.Reaching.{some_below_found}
use Rattle.tableau_bounds.specs.Enough.{class_occurrences, class_count}
use Rattle.tableau_bounds.proofs.Parts.{Within, in_first}
use Rattle.tableau_bounds.proofs.Labels.{Unique, unique_fits}
use Rattle.tableau_bounds.proofs.Powers.{power_pos}
use Rattle.tableau_bounds.proofs.Stepping.{Move, label_grows, edge_comes, node_comes, IsStep, ParentsBelow}
use Rattle.tableau_bounds.proofs.Sums.{total, total_le, total_more, tally, tally_most, tally_up, tally_more}
use Rattle.tableau_bounds.proofs.Ways.{ancestors_same, depth}

-- how many nodes a tree of so many levels has at most, where each node has at most m children
abbrev pub tree_size : ℕ → ℕ → ℕ
tree_size m zero = 0
tree_size m (suc levels) = 1 + m * tree_size m levels

-- at most a power of m + 1
pub tree_size_most : (m levels : ℕ) → tree_size m (suc levels) ≤ (m + 1) ^ levels
tree_size_most m zero = first (m * 0) ((m + 1) ^ zero) (mul-zero m) (pow-zero (m + 1))
  where
    first : (a b : ℕ) → a ≡ 0 → b ≡ 1 → 1 + a ≤ b
    first a b none one = omega arith
tree_size_most m (suc levels) =
    sum (m * tree_size m (suc levels)) (m * (m + 1) ^ levels) ((m + 1) ^ levels) ((m + 1) ^ levels * m) ((m + 1) ^ levels * (m + 1)) ((m + 1) ^ suc levels)
    (mul-le-mul_left m (tree_size_most m levels)) (power_pos (m + 1) levels (pos m)) (mul_comm m ((m + 1) ^ levels))
    (subst (λ z. (m + 1) ^ levels * z ≡ (m + 1) ^ levels * m + (m + 1) ^ levels) (next m) (mul-suc ((m + 1) ^ levels) m)) (pow-suc (m + 1) levels)
  where
    pos : (m : ℕ) → 0 < m + 1
    pos m = omega arith

    next : (m : ℕ) → suc m ≡ m + 1
    next m = omega arith

    sum : (a b p c d q : ℕ) → a ≤ b → 0 < p → b ≡ c → d ≡ c + p → q ≡ d → 1 + a ≤ q
    sum a b p c d q le pos turn share power = omega arith

-- whether a class of some successor has made a child
abbrev pub is_child : Theory → Graph → Role × Concept → ℕ → ℕ → Bool
is_child k g p x y = passes (parent_of g y) (λ z. z == x) && (is_neighbour k g p.0 x y && has_concept (label_at g y) p.1)

abbrev pub has_child : Theory → Graph → ℕ → Concept → Bool
has_child k g x c = passes (some_part c) (λ p. some_below (length g.nodes) (is_child k g p x))

abbrev pub used : Theory → Graph → ℕ → ℕ
used k g x = tally (has_child k g x) (label_at g x)

-- how many nodes may still come below a node, where no node has more than so many above it
abbrev pub room : Theory → ℕ → Graph → ℕ → ℕ
room k most g x = (class_count k - used k g x) * tree_size (class_count k) (most - depth g x)

abbrev pub all_room : Theory → ℕ → Graph → ℕ
all_room k most g = length g.nodes + total (room k most g) (length g.nodes)

is_same : (o : Option ℕ) (x : ℕ) → passes o (λ z. z == x) ≡ true → o ≡ Some x
is_same None x h = cc
is_same (Some y) x h = ap Some (eqb-true y x h)

same_is : (o : Option ℕ) (x : ℕ) → o ≡ Some x → passes o (λ z. z == x) ≡ true
same_is o x h = ap (λ q. passes q (λ z. z == x)) h ∙ eq-eqb x x refl

module _ (k : Theory) (g h : Graph) (step : IsStep k g h) (down : ParentsBelow g) (within : (y : ℕ) → Within (label_at g y) (class_occurrences k))
    (unique : (y : ℕ) → Unique (label_at g y)) where
  m : ℕ
  m = class_count k

  child_up : (p : Role × Concept) (x y : ℕ) → y < length g.nodes → is_child k g p x y ≡ true → is_child k h p x y ≡ true
  child_up p x y lt is =
      let one = and_parts (passes (parent_of g y) (λ z. z == x)) (is_neighbour k g p.0 x y && has_concept (label_at g y) p.1) is in
      let two = and_parts (is_neighbour k g p.0 x y) (has_concept (label_at g y) p.1) one.1 in
      let begins = step.labels y lt in
      and_from (passes (parent_of h y) (λ z. z == x)) (is_neighbour k h p.0 x y && has_concept (label_at h y) p.1)
      (ap (λ o. passes o (λ z. z == x)) (step.parents y lt) ∙ one.0)
      (and_from (is_neighbour k h p.0 x y) (has_concept (label_at h y) p.1) (step.edges p.0 x y two.0)
      (subst (λ l. has_concept l p.1 ≡ true) (sym begins.1) (in_first (label_at g y) begins.0 p.1 two.1)))

  has_child_up : (x : ℕ) (c : Concept) → has_child k g x c ≡ true → has_child k h x c ≡ true
  has_child_up x c is = go (some_part c) is
    where
      through : (a b c : ℕ) → a < b → b ≤ c → a < c
      through a b c lt le = omega arith

      go : (o : Option (Role × Concept)) → passes o (λ p. some_below (length g.nodes) (is_child k g p x)) ≡ true
          → passes o (λ p. some_below (length h.nodes) (is_child k h p x)) ≡ true
      go None e = cc
      go (Some p) e =
          let found = some_below_found (is_child k g p x) (length g.nodes) e in
          some_below_passes (is_child k h p x) found.0 (length h.nodes) (through found.0 (length g.nodes) (length h.nodes) found.1 step.nodes)
          (child_up p x found.0 found.1 found.2)

  used_up : (x : ℕ) → x < length g.nodes → used k g x ≤ used k h x
  used_up x lt =
      let begins = step.labels x lt in
      subst (λ l. used k g x ≤ tally (has_child k h x) l) (sym begins.1) (tally_up (has_child k g x) (has_child k h x) (has_child_up x) (label_at g x) begins.0)

  depth_same : (x : ℕ) → x < length g.nodes → depth h x ≡ depth g x
  depth_same x lt = ap length (ancestors_same g h down step.parents x lt)

  module _ (most : ℕ) where
    room_less : (x : ℕ) → x < length g.nodes → room k most h x ≤ room k most g x
    room_less x lt =
        subst (λ d. (class_count k - used k h x) * tree_size (class_count k) (most - d) ≤ room k most g x) (sym (depth_same x lt))
        (mul-le-mul_right (tree_size (class_count k) (most - depth g x)) (less (class_count k) (used k g x) (used k h x) (used_up x lt)))
      where
        less : (a b c : ℕ) → b ≤ c → a - c ≤ a - b
        less a b c le = omega arith

    same_room : length h.nodes ≡ length g.nodes → all_room k most h ≤ all_room k most g
    same_room same =
        subst (λ n. n + total (room k most h) n ≤ all_room k most g) (sym same)
        (sum (length g.nodes) (total (room k most h) (length g.nodes)) (total (room k most g) (length g.nodes))
        (total_le (room k most h) (room k most g) (length g.nodes) room_less))
      where
        sum : (n a b : ℕ) → a ≤ b → n + a ≤ n + b
        sum n a b le = omega arith

    module _ (x : ℕ) (c : Concept) (p : Role × Concept) (lt : x < length g.nodes) (more : length h.nodes ≡ length g.nodes + 1)
        (up : parent_of h (length g.nodes) ≡ Some x) (has : has_concept (label_at g x) c ≡ true) (part : some_part c ≡ Some p) (free : is_blocked k g x ≡ false)
        (alone : some_below (length g.nodes) (serves k g p.0 p.1 x) ≡ false) (near : is_neighbour k h p.0 x (length g.nodes) ≡ true)
        (there : has_concept (label_at h (length g.nodes)) p.1 ≡ true) where
      childless : has_child k g x c ≡ false
      childless = false_from_ne_true (has_child k g x c) (λ is. none (sym (ap (λ o. passes o (λ p. some_below (length g.nodes) (is_child k g p x))) part) ∙ is))
        where
          none : some_below (length g.nodes) (is_child k g p x) ≡ true → ⊥
          none is =
              let found = some_below_found (is_child k g p x) (length g.nodes) is in
              let one = and_parts (passes (parent_of g found.0) (λ z. z == x)) (is_neighbour k g p.0 x found.0 && has_concept (label_at g found.0) p.1)
              found.2 in
              let two = and_parts (is_neighbour k g p.0 x found.0) (has_concept (label_at g found.0) p.1) one.1 in
              let open_there : is_indirectly_blocked k g found.0 ≡ false = indirectly-some k g down found.0 x (is_same (parent_of g found.0) x one.0) ∙ free in
              not_both (some_below_passes (serves k g p.0 p.1 x) found.0 (length g.nodes) found.1
              (and_from (is_neighbour k g p.0 x found.0) (not (is_indirectly_blocked k g found.0) && has_concept (label_at g found.0) p.1) two.0
              (and_from (not (is_indirectly_blocked k g found.0)) (has_concept (label_at g found.0) p.1)
              (not_from_false (is_indirectly_blocked k g found.0) open_there) two.1))) alone

      child_now : has_child k h x c ≡ true
      child_now =
          ap (λ o. passes o (λ p. some_below (length h.nodes) (is_child k h p x))) part
          ∙ some_below_passes (is_child k h p x) (length g.nodes) (length h.nodes) (below (length g.nodes) (length h.nodes) more)
          (and_from (passes (parent_of h (length g.nodes)) (λ z. z == x))
          (is_neighbour k h p.0 x (length g.nodes) && has_concept (label_at h (length g.nodes)) p.1) (same_is (parent_of h (length g.nodes)) x up)
          (and_from (is_neighbour k h p.0 x (length g.nodes)) (has_concept (label_at h (length g.nodes)) p.1) near there))
        where
          below : (a b : ℕ) → b ≡ a + 1 → a < b
          below a b e = omega arith

      used_more : used k g x + 1 ≤ used k h x
      used_more =
          let begins = step.labels x lt in
          subst (λ l. used k g x + 1 ≤ tally (has_child k h x) l) (sym begins.1)
          (tally_more (has_child k g x) (has_child k h x) (has_child_up x) (label_at g x) begins.0 c has childless child_now)

      used_few : used k h x ≤ class_count k
      used_few =
          through (used k h x) (length (label_at h x)) (class_count k) (tally_most (has_child k h x) (label_at h x))
          (unique_fits (label_at h x) (class_occurrences k) (step.unique unique x) (step.within within x))
        where
          through : (a b c : ℕ) → a ≤ b → b ≤ c → a ≤ c
          through a b c le low = omega arith

      room_taken : room k most h x + tree_size (class_count k) (most - depth g x) ≤ room k most g x
      room_taken =
          subst (λ d. (class_count k - used k h x) * tree_size (class_count k) (most - d) + tree_size (class_count k) (most - depth g x) ≤ room k most g x)
          (sym (depth_same x lt))
          (share (class_count k - used k h x) (class_count k - used k g x) (tree_size (class_count k) (most - depth g x))
          (less (class_count k) (used k g x) (used k h x) used_more used_few))
        where
          less : (a b c : ℕ) → b + 1 ≤ c → c ≤ a → suc (a - c) ≤ a - b
          less a b c le low = omega arith

          share : (a b q : ℕ) → suc a ≤ b → a * q + q ≤ b * q
          share a b q le = subst (λ z. z ≤ b * q) (suc-mul a q) (mul-le-mul_right q le)

      depth_new : depth h (length g.nodes) ≡ suc (depth g x)
      depth_new = ap length (ancestors-some h (step.down down) (length g.nodes) x up) ∙ ap suc (depth_same x lt)

      module _ (low : depth g x < most) where
        room_new : room k most h (length g.nodes) + 1 ≤ tree_size (class_count k) (most - depth g x)
        room_new =
            subst (λ d. (class_count k - used k h (length g.nodes)) * tree_size (class_count k) (most - d) + 1 ≤ tree_size (class_count k) (most - depth g x))
            (sym depth_new)
            (subst (λ z. (class_count k - used k h (length g.nodes)) * tree_size (class_count k) (most - suc (depth g x)) + 1 ≤ tree_size (class_count k) z)
            (one most (depth g x) low)
            (sum ((class_count k - used k h (length g.nodes)) * tree_size (class_count k) (most - suc (depth g x)))
            (class_count k * tree_size (class_count k) (most - suc (depth g x)))
            (mul-le-mul_right (tree_size (class_count k) (most - suc (depth g x))) (less (class_count k) (used k h (length g.nodes))))))
          where
            one : (a d : ℕ) → d < a → suc (a - suc d) ≡ a - d
            one a d lt = omega arith

            less : (a b : ℕ) → a - b ≤ a
            less a b = omega arith

            sum : (a b : ℕ) → a ≤ b → a + 1 ≤ 1 + b
            sum a b le = omega arith

        larger_room : all_room k most h ≤ all_room k most g
        larger_room =
            subst (λ n. n + total (room k most h) n ≤ all_room k most g) (next (length g.nodes) ∙ sym more)
            (sum (length g.nodes) (total (room k most h) (length g.nodes)) (room k most h (length g.nodes)) (tree_size (class_count k) (most - depth g x))
            (total (room k most g) (length g.nodes)) room_new
            (total_more (room k most h) (room k most g) (length g.nodes) x (tree_size (class_count k) (most - depth g x)) lt room_taken room_less))
          where
            next : (n : ℕ) → suc n ≡ n + 1
            next n = omega arith

            sum : (n t r s u : ℕ) → r + 1 ≤ s → t + s ≤ u → suc n + (t + r) ≤ n + u
            sum n t r s u le low = omega arith

    -- a step leaves no more room, where a node that is not blocked stands above the last level
    pub room_kept : ((x : ℕ) → is_blocked k g x ≡ false → depth g x < most) → all_room k most h ≤ all_room k most g
    room_kept low = go step.move
      where
        go : Move k g h → all_room k most h ≤ all_room k most g
        go (label_grows x lt same longer) = same_room same
        go (edge_comes x c lt same has apart joined) = same_room same
        go (node_comes x c p lt more up has part free alone near there) = larger_room x c p lt more up has part free alone near there (low x free)

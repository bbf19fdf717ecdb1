-- The rank of a branch: its nodes, the classes of their labels and the value classes that have their edge. Each step
-- raises it.
use Rattle.std.proofs.Common.{◌≡◌, ℕ, suc, ◌+◌, ◌*◌, ◌<◌, ◌≤◌, true, length, Option, Some, None, sym, ap, ◌∙◌, subst, arith, length-append, mul-le-mul_right}
use Rattle.wiki_base.specs.declared.numbers.WordId.{WordId}
use Rattle.logic_terms.specs.declared.expressions.Role.{Role}
use Rattle.logic_terms.specs.Concept.{Concept}
use Rattle.logic_terms.specs.Parts.{value_part}
use Rattle.logic_terms.specs.Theory.{Theory}
use Rattle.tableau_rules.specs.Graph.{Graph, label_at}
use Rattle.tableau_rules.specs.Neighbours.{node_of, is_neighbour}
use Rattle.tableau_rules.specs.Clashes.{passes}
use Rattle.tableau_bounds.specs.Enough.{class_occurrences, class_count}
use Rattle.tableau_bounds.proofs.Parts.{Within}
use Rattle.tableau_bounds.proofs.Labels.{BeginsWith, Unique, unique_fits}
use Rattle.tableau_bounds.proofs.Stepping.{is_linked, Move, label_grows, edge_comes, node_comes, IsStep}
use Rattle.tableau_bounds.proofs.Sums.{total, total_le, total_more, total_most, tally, tally_most, tally_up, tally_more}

abbrev pub node_rank : Theory → Graph → ℕ → ℕ
node_rank k g x = (1 + length (label_at g x)) + tally (is_linked k g x) (label_at g x)

abbrev pub rank : Theory → Graph → ℕ
rank k g = total (node_rank k g) (length g.nodes)

module _ (k : Theory) (g h : Graph) (step : IsStep k g h) where
  linked_up : (x : ℕ) (c : Concept) → is_linked k g x c ≡ true → is_linked k h x c ≡ true
  linked_up x c is = go (value_part c) is
    where
      inner : (p : Role × WordId) (o : Option ℕ) → passes o (is_neighbour k g p.0 x) ≡ true → passes o (is_neighbour k h p.0 x) ≡ true
      inner p None e = cc
      inner p (Some y) e = step.edges p.0 x y e

      go : (o : Option (Role × WordId)) → passes o (λ p. passes (node_of k p.1) (is_neighbour k g p.0 x)) ≡ true
          → passes o (λ p. passes (node_of k p.1) (is_neighbour k h p.0 x)) ≡ true
      go None e = cc
      go (Some p) e = inner p (node_of k p.1) e

  begun_length : (y : ℕ) (begins : BeginsWith (label_at g y) (label_at h y)) → length (label_at g y) ≤ length (label_at h y)
  begun_length y begins = sum (length (label_at g y)) (length begins.0) (length (label_at h y)) (ap length begins.1 ∙ length-append (label_at g y) begins.0)
    where
      sum : (a b n : ℕ) → n ≡ a + b → a ≤ n
      sum a b n e = omega arith

  linked_more : (y : ℕ) → BeginsWith (label_at g y) (label_at h y) → tally (is_linked k g y) (label_at g y) ≤ tally (is_linked k h y) (label_at h y)
  linked_more y begins =
      subst (λ l. tally (is_linked k g y) (label_at g y) ≤ tally (is_linked k h y) l) (sym begins.1)
      (tally_up (is_linked k g y) (is_linked k h y) (linked_up y) (label_at g y) begins.0)

  node_up : (y : ℕ) → y < length g.nodes → node_rank k g y ≤ node_rank k h y
  node_up y lt =
      let begins = step.labels y lt in
      sum (length (label_at g y)) (length (label_at h y)) (tally (is_linked k g y) (label_at g y)) (tally (is_linked k h y) (label_at h y))
      (begun_length y begins) (linked_more y begins)
    where
      sum : (a b x z : ℕ) → a ≤ b → x ≤ z → (1 + a) + x ≤ (1 + b) + z
      sum a b x z le up = omega arith

  same_nodes : (x : ℕ) → x < length g.nodes → length h.nodes ≡ length g.nodes → node_rank k g x + 1 ≤ node_rank k h x → rank k g + 1 ≤ rank k h
  same_nodes x lt same more =
      subst (λ n. rank k g + 1 ≤ total (node_rank k h) n) (sym same) (total_more (node_rank k g) (node_rank k h) (length g.nodes) x 1 lt more node_up)

  pub rank_up : rank k g + 1 ≤ rank k h
  rank_up = go step.move
    where
      longer : (a b x z : ℕ) → a < b → x ≤ z → ((1 + a) + x) + 1 ≤ (1 + b) + z
      longer a b x z lt up = omega arith

      linked : (a b x z : ℕ) → a ≤ b → x + 1 ≤ z → ((1 + a) + x) + 1 ≤ (1 + b) + z
      linked a b x z lt up = omega arith

      larger : (t u a x : ℕ) → t ≤ u → t + 1 ≤ u + ((1 + a) + x)
      larger t u a x le = omega arith

      next : (n : ℕ) → suc n ≡ n + 1
      next n = omega arith

      go : Move k g h → rank k g + 1 ≤ rank k h
      go (label_grows x lt same more) =
          same_nodes x lt same (longer (length (label_at g x)) (length (label_at h x)) (tally (is_linked k g x) (label_at g x))
          (tally (is_linked k h x) (label_at h x)) more (linked_more x (step.labels x lt)))
      go (edge_comes x c lt same has apart joined) =
          let begins = step.labels x lt in
          same_nodes x lt same (linked (length (label_at g x)) (length (label_at h x)) (tally (is_linked k g x) (label_at g x))
          (tally (is_linked k h x) (label_at h x)) (begun_length x begins)
          (subst (λ l. tally (is_linked k g x) (label_at g x) + 1 ≤ tally (is_linked k h x) l) (sym begins.1)
          (tally_more (is_linked k g x) (is_linked k h x) (linked_up x) (label_at g x) begins.0 c has apart joined)))
      go (node_comes x c p lt more up has part free alone near there) =
          subst (λ n. rank k g + 1 ≤ total (node_rank k h) n) (next (length g.nodes) ∙ sym more)
          (larger (rank k g) (total (node_rank k h) (length g.nodes)) (length (label_at h (length g.nodes)))
          (tally (is_linked k h (length g.nodes)) (label_at h (length g.nodes)))
          (total_le (node_rank k g) (node_rank k h) (length g.nodes) node_up))

-- labels within the class occurrences, each class once, bound the rank by the nodes
pub rank_most : (k : Theory) (g : Graph) → ((y : ℕ) → Within (label_at g y) (class_occurrences k)) → ((y : ℕ) → Unique (label_at g y)) → (n : ℕ)
    → length g.nodes ≤ n → rank k g ≤ n * (2 * class_count k + 1)
rank_most k g within unique n few =
    through (rank k g) (length g.nodes * (2 * class_count k + 1)) (n * (2 * class_count k + 1))
    (total_most (node_rank k g) (length g.nodes) (2 * class_count k + 1)
    (λ y lt. each (length (label_at g y)) (tally (is_linked k g y) (label_at g y)) (class_count k)
    (unique_fits (label_at g y) (class_occurrences k) (unique y) (within y)) (tally_most (is_linked k g y) (label_at g y))))
    (mul-le-mul_right (2 * class_count k + 1) few)
  where
    through : (a b c : ℕ) → a ≤ b → b ≤ c → a ≤ c
    through a b c le up = omega arith

    each : (a x m : ℕ) → a ≤ m → x ≤ a → (1 + a) + x ≤ 2 * m + 1
    each a x m le up = omega arith

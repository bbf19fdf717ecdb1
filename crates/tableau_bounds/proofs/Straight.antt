-- Searches over knowledge without unions: no step has two choices, so nothing waits, and each application raises the rank.
use Rattle.std.proofs.Common.{◌≡◌, ℕ, zero, suc, ◌+◌, ◌*◌, ◌<◌, ◌≤◌, Bool, true, false, List, [], ◌∷◌, ◌++◌, length, cond, Option, Some, None, refl, sym, ap, ◌∙◌, subst, inl, inr, arith}
use Rattle.std.specs.Prelude.{nat_lt, not, is_some, IsTrue}
use Rattle.std.specs.List.{list_any, flat_map}
use Rattle.std.specs.Option.{option_and_then, option_map_or}
use Rattle.std.proofs.lemmas.Bool.{or_cases, or_left, or_right, ltb-true, le-ltb, not-true}
use Rattle.std.proofs.lemmas.Option.{same_Some}
use Rattle.wiki_base.proofs.BoolLaws.{not_both}
use Rattle.logic_terms.specs.declared.expressions.Role.{Role}
use Rattle.logic_terms.specs.Concept.{Concept, ComplementOf, UnionOf, SomeValuesFrom, AllValuesFrom, HasValue}
use Rattle.logic_terms.specs.Parts.{union_part, some_part}
use Rattle.logic_terms.specs.Same.{same_concept, has_concept}
use Rattle.logic_terms.specs.Theory.{Theory}
use Rattle.logic_terms.proofs.SameLemmas.{same_concept-equal}
use Rattle.tableau_rules.specs.declared.step.Rule.{Rule}
use Rattle.tableau_rules.specs.declared.step.Rule.TheVariants as rule
use Rattle.tableau_rules.specs.declared.step.Step.{Step}
use Rattle.tableau_rules.specs.Graph.{Graph, class_at, label_at}
use Rattle.tableau_rules.specs.Carrying.{along, both_ways}
use Rattle.tableau_rules.specs.Clashes.{has_clash}
use Rattle.tableau_rules.specs.Rules.{first_step, applies, choices_for, choices, after}
use Rattle.tableau_rules.specs.Branches.{start, IsBranch, begun, stepped}
use Rattle.tableau_rules.specs.Searching.{OpenChoice, Searching, begun_search, remaining, resumed, next_search, searched, IsLonger}
use Rattle.tableau_rules.proofs.Labels.{has_here}
use Rattle.tableau_bounds.specs.Enough.{own_occurrences, class_occurrences, class_count, most_nodes, enough_without_choices, enough_without_new_nodes}
use Rattle.tableau_bounds.specs.Fragments.{is_union, is_existential, is_without_unions, is_without_existentials}
use Rattle.tableau_bounds.proofs.Ends.{branch_bounded, bounded_nodes}
use Rattle.tableau_bounds.proofs.FirstApplies.{first_applies}
use Rattle.tableau_bounds.proofs.Parts.{Within, in_one, moved, moved_found}
use Rattle.tableau_bounds.proofs.Rank.{rank, rank_up, rank_most}
use Rattle.tableau_bounds.proofs.Stepping.{UnionsHaveMembers, Move, label_grows, edge_comes, node_comes, after_step}

-- what no class occurrence of the knowledge is, none of them along a role is
module _ (test : Concept → Bool) (kept : (t : Role) (d : Concept) → test (along t d) ≡ test d) where
  any_there : (cs : List Concept) (c : Concept) → has_concept cs c ≡ true → test c ≡ true → list_any test cs ≡ true
  any_there [] c h is = cc
  any_there (d ∷ cs) c h is = elim (or_cases (same_concept d c) (has_concept cs c) h) [
    | inl here ↦ or_left (test d) (list_any test cs) (ap test (same_concept-equal d c here) ∙ is)
    | inr later ↦ or_right (test d) (list_any test cs) (any_there cs c later is)
  ]

  none_occurs : (k : Theory) → not (list_any test (own_occurrences k)) ≡ true → (c : Concept) → has_concept (class_occurrences k) c ≡ true → test c ≡ true → ⊥
  none_occurs k none c h is = not_both own (not-true (list_any test (own_occurrences k)) none)
    where
      own : list_any test (own_occurrences k) ≡ true
      own = elim (in_one (own_occurrences k) (moved (own_occurrences k) (flat_map both_ways k.transitive)) c h) [
        | inl here ↦ any_there (own_occurrences k) c here is
        | inr other ↦
            let found = moved_found (own_occurrences k) (flat_map both_ways k.transitive) c other in
            any_there (own_occurrences k) found.1 found.3 (sym (kept found.0 found.1) ∙ (sym (ap test found.4) ∙ is))
      ]

union_along : (t : Role) (d : Concept) → is_union (along t d) ≡ is_union d
union_along t (ComplementOf d) = refl
union_along t (AllValuesFrom role d) = refl
union_along t (HasValue role name) = refl
union_along t _ = refl

existential_along : (t : Role) (d : Concept) → is_existential (along t d) ≡ is_existential d
existential_along t (ComplementOf d) = refl
existential_along t (AllValuesFrom role d) = refl
existential_along t (HasValue role name) = refl
existential_along t _ = refl

module _ (k : Theory) (unions : IsTrue (is_without_unions k)) where
  no_union : (c : Concept) → has_concept (class_occurrences k) c ≡ true → is_union c ≡ true → ⊥
  no_union = none_occurs is_union union_along k unions

  filled : UnionsHaveMembers k
  filled (UnionOf ds) cs h part = absurd (no_union (UnionOf ds) h refl)
  filled _ cs h part = cc

  -- a step has at most one choice
  one_choice : (g : Graph) → IsBranch k g → (s : Step) → choices g s ≤ 1
  one_choice g branch s = go (class_at g s.node s.class) refl
    where
      of_union : (c : Concept) → has_concept (class_occurrences k) c ≡ true → option_map_or length (union_part c) 1 ≤ 1
      of_union (UnionOf ds) h = absurd (no_union (UnionOf ds) h refl)
      of_union _ h = omega arith

      by_rule : (r : Rule) (c : Concept) → has_concept (class_occurrences k) c ≡ true → choices_for r c ≤ 1
      by_rule rule.Or c h = of_union c h
      by_rule _ c h = omega arith

      go : (o : Option Concept) → class_at g s.node s.class ≡ o → option_map_or (choices_for s.rule) o 1 ≤ 1
      go None at = omega arith
      go (Some c) at = by_rule s.rule c ((branch_bounded k filled g branch).within s.node c (has_here (label_at g s.node) s.class c at))

  -- so many applications made a branch at least as high, and nothing waits
  record IsStraight (n : ℕ) (s : Searching) : Type 0 where
    branch : IsBranch k s.graph
    alone : s.waiting ≡ []
    risen : n ≤ rank k s.graph

  taken : (n : ℕ) (g : Graph) (step : Step) (t : Searching) → IsBranch k g → n ≤ rank k g → applies k g step ≡ true → (b : Bool)
      → nat_lt 0 (choices g step) ≡ b → resumed k (cond b (record { graph = g; step = step; next = 0 } ∷ []) [] ++ []) ≡ Some t → IsStraight (suc n) t
  taken n g step t branch risen there false is h = cc
  taken n g step t branch risen there true is h =
      let lt = ltb-true 0 (choices g step) is in
      let none : nat_lt (0 + 1) (choices g step) ≡ false = le-ltb (0 + 1) (choices g step) (one_choice g branch step) in
      let next : OpenChoice = record { graph = g; step = step; next = 0 + 1 } in
      let u : Searching = record { graph = after k g step 0; waiting = remaining next ++ [] } in
      let up = rank_up k g (after k g step 0) (after_step k g filled (branch_bounded k filled g branch).within step 0 there lt) in
      subst (IsStraight (suc n)) (same_Some u t h) (record {
        branch = stepped g step 0 branch there lt;
        alone = ap (λ b. cond b (next ∷ []) [] ++ []) none;
        risen = more n (rank k g) (rank k (after k g step 0)) risen up;
      })
    where
      more : (n a b : ℕ) → n ≤ a → a + 1 ≤ b → suc n ≤ b
      more n a b le up = omega arith

  next_straight : (n : ℕ) (s t : Searching) → IsStraight n s → next_search k s ≡ Some t → IsStraight (suc n) t
  next_straight n s t straight h =
      go (has_clash k s.graph)
      (ap (λ w. option_and_then (resumed k) (cond (has_clash k s.graph) (Some w)
      (option_map_or (λ step. Some (remaining (record { graph = s.graph; step = step; next = 0 }) ++ w)) (first_step k s.graph) None))) (sym straight.alone)
      ∙ h)
    where
      stepping : (o : Option Step) → first_step k s.graph ≡ o
          → option_and_then (resumed k) (option_map_or (λ step. Some (remaining (record { graph = s.graph; step = step; next = 0 }) ++ [])) o None) ≡ Some t
          → IsStraight (suc n) t
      stepping None is e = cc
      stepping (Some step) is e =
          taken n s.graph step t straight.branch straight.risen (first_applies k s.graph step is) (nat_lt 0 (choices s.graph step)) refl e

      go : (b : Bool) → option_and_then (resumed k) (cond b (Some [])
          (option_map_or (λ step. Some (remaining (record { graph = s.graph; step = step; next = 0 }) ++ [])) (first_step k s.graph) None)) ≡ Some t
          → IsStraight (suc n) t
      go true e = cc
      go false e = stepping (first_step k s.graph) refl e

  searched_straight : (n : ℕ) (s : Searching) → searched k n ≡ Some s → IsStraight n s
  searched_straight zero s h =
      subst (IsStraight zero) (same_Some (begun_search k) s h) (record { branch = begun; alone = refl; risen = least (rank k (start k)) })
    where
      least : (n : ℕ) → zero ≤ n
      least n = omega arith
  searched_straight (suc n) s h = go (searched k n) refl h (searched_straight n)
    where
      go : (o : Option Searching) → searched k n ≡ o → option_and_then (next_search k) o ≡ Some s
          → ((before : Searching) → searched k n ≡ Some before → IsStraight n before) → IsStraight (suc n) s
      go None is e earlier = cc
      go (Some before) is e earlier = next_straight n before s (earlier before is) e

  -- a search that has not ended after so many applications has made fewer than a bound on the rank of each branch
  longer_straight : (d : ℕ) → ((g : Graph) → IsBranch k g → rank k g ≤ d) → (n : ℕ) → IsLonger k n → n < d
  longer_straight d most n longer = go (searched k (suc n)) refl longer
    where
      less : (n r d : ℕ) → suc n ≤ r → r ≤ d → n < d
      less n r d risen le = omega arith

      go : (o : Option Searching) → searched k (suc n) ≡ o → is_some o ≡ true → n < d
      go None is e = cc
      go (Some s) is e = let straight = searched_straight (suc n) s is in less n (rank k s.graph) d straight.risen (most s.graph straight.branch)

  -- where so many nodes are the most
  longer_on : (most : ℕ) → ((g : Graph) → IsBranch k g → length g.nodes ≤ most) → (n : ℕ) → IsLonger k n → n < most * (2 * class_count k + 1)
  longer_on most few = longer_straight (most * (2 * class_count k + 1))
      (λ g branch. let bounded = branch_bounded k filled g branch in rank_most k g bounded.within bounded.unique most (few g branch))

  pub longer_without_choices : (n : ℕ) → IsLonger k n → n < enough_without_choices k
  longer_without_choices = longer_on (most_nodes k) (λ g branch. bounded_nodes k g (branch_bounded k filled g branch))

  module _ (existentials : IsTrue (is_without_existentials k)) where
    no_existential : (c : Concept) → has_concept (class_occurrences k) c ≡ true → is_existential c ≡ true → ⊥
    no_existential = none_occurs is_existential existential_along k existentials

    -- the first nodes are the only ones
    pub no_new_nodes : (g : Graph) → IsBranch k g → length g.nodes ≡ length (start k).nodes
    no_new_nodes _ begun = refl
    no_new_nodes _ (stepped g s choice branch on lt) =
        let within = (branch_bounded k filled g branch).within in
        go within (after_step k g filled within s choice on lt).move ∙ no_new_nodes g branch
      where
        never : (c : Concept) (p : Role × Concept) → has_concept (class_occurrences k) c ≡ true → some_part c ≡ Some p → ⊥
        never (SomeValuesFrom role d) p h part = no_existential (SomeValuesFrom role d) h refl
        never _ p h part = cc

        go : ((y : ℕ) → Within (label_at g y) (class_occurrences k)) → Move k g (after k g s choice) → length (after k g s choice).nodes ≡ length g.nodes
        go within (label_grows x below same longer) = same
        go within (edge_comes x c below same has apart joined) = same
        go within (node_comes x c p below more up has part free alone near there) = absurd (never c p (within x c has) part)

    pub longer_without_new_nodes : (n : ℕ) → IsLonger k n → n < enough_without_new_nodes k
    longer_without_new_nodes = longer_on (length (start k).nodes) (λ g branch. same_le (length g.nodes) (length (start k).nodes) (no_new_nodes g branch))
      where
        same_le : (a b : ℕ) → a ≡ b → a ≤ b
        same_le a b e = omega arith

never_both : (a b : ℕ) → a < b → b ≤ a → ⊥
never_both a b lt le = omega arith

pub ends_without_choices : (k : Theory) → IsTrue (is_without_unions k) → (n : ℕ) → enough_without_choices k ≤ n → IsLonger k n → ⊥
ends_without_choices k unions n le longer = never_both n (enough_without_choices k) (longer_without_choices k unions n longer) le

pub ends_without_new_nodes : (k : Theory) → IsTrue (is_without_unions k) → IsTrue (is_without_existentials k) → (n : ℕ) → enough_without_new_nodes k ≤ n
    → IsLonger k n → ⊥
ends_without_new_nodes k unions existentials n le longer =
    never_both n (enough_without_new_nodes k) (longer_without_new_nodes k unions existentials n longer) le

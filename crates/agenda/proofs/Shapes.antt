-- What each branch keeps: parents stand before their children, and edges lead between nodes.
use Rattle.std.proofs.Common.{◌≡◌, ℕ, ◌+◌, ◌<◌, ◌≤◌, ◌==◌, ◌&&◌, Bool, true, false, List, [], ◌∷◌, ◌++◌, length, Option, Some, None, subst, refl, sym, ap, ◌∙◌, inl, inr, arith}
use Rattle.std.specs.Prelude.{nat_lt, filter_map}
use Rattle.std.specs.List.{list_any, list_all, cons_option}
use Rattle.std.specs.Option.{option_and_then, option_map}
use Rattle.std.proofs.lemmas.Bool.{cases_eq, cases_lt, and_parts, and_from, or_cases, eqb-true, ltb-true, lt-ltb}
use Rattle.std.proofs.lemmas.Option.{slice_get_past}
use Rattle.wiki_base.specs.declared.numbers.WordId.{WordId}
use Rattle.tableau_rules.proofs.Roots.{node_within}
use Rattle.tableau_rules.proofs.Labels.{get_push_new}
use Rattle.logic_terms.specs.declared.expressions.Role.{Role}
use Rattle.logic_terms.specs.Concept.{Concept}
use Rattle.logic_terms.specs.Same.{inverse}
use Rattle.logic_terms.specs.Theory.{Theory, is_below}
use Rattle.tableau_rules.specs.declared.branch.Edge.{Edge}
use Rattle.tableau_rules.specs.declared.step.Step.{Step}
use Rattle.tableau_rules.specs.Branches.{first_edge, start, IsBranch, begun, stepped}
use Rattle.tableau_rules.specs.Graph.{Graph, parent_of}
use Rattle.tableau_rules.specs.Neighbours.{roots, node_of, makes_neighbour}
use Rattle.tableau_rules.specs.Rules.{applies}
use Rattle.tableau_bounds.proofs.Beginning.{start_parent, start_roots}
use Rattle.tableau_bounds.proofs.Stepping.{ParentsBelow}
use Rattle.agenda.proofs.Staying.{NeighboursThere}
use Rattle.tableau_rules.specs.Rules.{adding, with_node, after}
use Rattle.agenda.specs.Steps.{grown_by, sprouts}
use Rattle.agenda.proofs.Effects.{IsGrown, IsLinked, IsSprouted, growth, linking, sprouting}
use Rattle.agenda.proofs.Changing.{adding_count, adding_edges, adding_parent, node_count, old_parent}

-- whether an edge leads between two of so many nodes
abbrev pub is_inside : ℕ → Edge → Bool
is_inside n e = nat_lt e.from n && nat_lt e.to n

pub record IsShaped (k : Theory) (g : Graph) : Type 0 where
  pub down : ParentsBelow g
  pub inside : list_all (is_inside (length g.nodes)) g.edges ≡ true
  pub named : length (roots k) ≤ length g.nodes

-- a neighbour is an end of an edge
neighbour_end : (k : Theory) (role : Role) (x y n : ℕ) (e : Edge) → is_inside n e ≡ true → makes_neighbour k role x y e ≡ true → y < n
neighbour_end k role x y n e inside made =
    let ends = and_parts (nat_lt e.from n) (nat_lt e.to n) inside in
    elim (or_cases ((e.from == x) && ((e.to == y) && is_below k e.role role)) ((e.from == y) && ((e.to == x) && is_below k (inverse e.role) role)) made) [
      | inl there ↦
          let one = and_parts (e.from == x) ((e.to == y) && is_below k e.role role) there in
          let two = and_parts (e.to == y) (is_below k e.role role) one.1 in
          subst (λ z. z < n) (eqb-true e.to y two.0) (ltb-true e.to n ends.1)
      | inr back ↦
          let one = and_parts (e.from == y) ((e.to == x) && is_below k (inverse e.role) role) back in
          subst (λ z. z < n) (eqb-true e.from y one.0) (ltb-true e.from n ends.0)
    ]

neighbours_in : (k : Theory) (role : Role) (x y n : ℕ) (es : List Edge) → list_all (is_inside n) es ≡ true → list_any (makes_neighbour k role x y) es ≡ true
    → y < n
neighbours_in k role x y n [] inside near = cc
neighbours_in k role x y n (e ∷ es) inside near =
    let parts = and_parts (is_inside n e) (list_all (is_inside n) es) inside in
    elim (or_cases (makes_neighbour k role x y e) (list_any (makes_neighbour k role x y) es) near) [
      | inl here ↦ neighbour_end k role x y n e parts.0 here
      | inr later ↦ neighbours_in k role x y n es parts.1 later
    ]

pub shaped_neighbours : (k : Theory) (g : Graph) → IsShaped k g → NeighboursThere k g
shaped_neighbours k g shaped role y z near = neighbours_in k role y z (length g.nodes) g.edges shaped.inside near

-- the first branch
first_inside : (k : Theory) (n : ℕ) → length (roots k) ≤ n → (d : Role × WordId × WordId) (e : Edge) → first_edge k d ≡ Some e → is_inside n e ≡ true
first_inside k n le d e at = go (node_of k d.1) (node_of k d.2) refl refl at
  where
    far : (x : ℕ) → x < length (roots k) → x < n
    far x lt = omega arith

    go : (a b : Option ℕ) → node_of k d.1 ≡ a → node_of k d.2 ≡ b
        → option_and_then (λ x. option_map (λ y. let f : Edge = record { from = x; role = d.0; to = y } in f) b) a ≡ Some e → is_inside n e ≡ true
    go None b one two i = cc
    go (Some x) None one two i = cc
    go (Some x) (Some y) one two i =
        let f : Edge = record { from = x; role = d.0; to = y } in
        let same : f ≡ e = cc in
        subst (λ z. is_inside n z ≡ true) same
        (and_from (nat_lt x n) (nat_lt y n) (lt-ltb x n (far x (node_within k d.1 x one))) (lt-ltb y n (far y (node_within k d.2 y two))))

one_inside : (n : ℕ) (o : Option Edge) (es : List Edge) → ((e : Edge) → o ≡ Some e → is_inside n e ≡ true) → list_all (is_inside n) es ≡ true
    → list_all (is_inside n) (cons_option o es) ≡ true
one_inside n None es each rest = rest
one_inside n (Some e) es each rest = and_from (is_inside n e) (list_all (is_inside n) es) (each e refl) rest

firsts_inside : (k : Theory) (n : ℕ) → length (roots k) ≤ n → (ds : List (Role × WordId × WordId))
    → list_all (is_inside n) (filter_map (first_edge k) ds) ≡ true
firsts_inside k n le [] = refl
firsts_inside k n le (d ∷ ds) =
    one_inside n (first_edge k d) (filter_map (first_edge k) ds) (λ e at. first_inside k n le d e at) (firsts_inside k n le ds)

start_shaped : (k : Theory) → IsShaped k (start k)
start_shaped k = record {
  down = λ y p up. (let none : None ≡ Some p = sym (start_parent k y) ∙ up in cc);
  inside = firsts_inside k (length (start k).nodes) (start_roots k) k.edges;
  named = start_roots k;
}

-- a step
module _ (k : Theory) (g : Graph) (shaped : IsShaped k g) where
  wider : (n m : ℕ) → n ≤ m → (es : List Edge) → list_all (is_inside n) es ≡ true → list_all (is_inside m) es ≡ true
  wider n m le [] all = refl
  wider n m le (e ∷ es) all =
      let parts = and_parts (is_inside n e) (list_all (is_inside n) es) all in
      let two = and_parts (nat_lt e.from n) (nat_lt e.to n) parts.0 in
      and_from (is_inside m e) (list_all (is_inside m) es)
      (and_from (nat_lt e.from m) (nat_lt e.to m) (lt-ltb e.from m (up e.from (ltb-true e.from n two.0))) (lt-ltb e.to m (up e.to (ltb-true e.to n two.1))))
      (wider n m le es parts.1)
    where
      up : (x : ℕ) → x < n → x < m
      up x lt = omega arith

  one_more : (n : ℕ) (es : List Edge) (e : Edge) → list_all (is_inside n) es ≡ true → is_inside n e ≡ true → list_all (is_inside n) (es ++ e ∷ []) ≡ true
  one_more n [] e all it = and_from (is_inside n e) true it refl
  one_more n (d ∷ ds) e all it =
      let parts = and_parts (is_inside n d) (list_all (is_inside n) ds) all in
      and_from (is_inside n d) (list_all (is_inside n) (ds ++ e ∷ [])) parts.0 (one_more n ds e parts.1 it)

  adding_shaped : (x : ℕ) (cs : List Concept) → IsShaped k (adding g x cs)
  adding_shaped x cs = record {
    down = λ y p up. shaped.down y p (sym (adding_parent k g x cs y) ∙ up);
    inside = ap (list_all (is_inside (length (adding g x cs).nodes))) (adding_edges k g x cs)
        ∙ (ap (λ n. list_all (is_inside n) g.edges) (adding_count k g x cs) ∙ shaped.inside);
    named = subst (λ n. length (roots k) ≤ n) (sym (adding_count k g x cs)) shaped.named;
  }

  grown_shaped : (x : ℕ) (h : Graph) → IsGrown k g x h → IsShaped k h
  grown_shaped x h (inl same) = subst (IsShaped k) (sym same) shaped
  grown_shaped x h (inr (cs, is)) = subst (IsShaped k) (sym is) (adding_shaped x cs)

  linked_shaped : (h : Graph) → IsLinked k g h → IsShaped k h
  linked_shaped h link =
      let e = link.edge in
      let to : e.to < length g.nodes = far e.to (node_within k link.name.1 e.to link.to) in
      subst (IsShaped k) (sym link.is) (record {
        down = shaped.down;
        inside = one_more (length g.nodes) g.edges e shaped.inside
            (and_from (nat_lt e.from (length g.nodes)) (nat_lt e.to (length g.nodes)) (lt-ltb e.from (length g.nodes) link.from)
            (lt-ltb e.to (length g.nodes) to));
        named = shaped.named;
      })
    where
      sum : (a b c : ℕ) → a < b → b ≤ c → a < c
      sum a b c lt le = omega arith

      far : (y : ℕ) → y < length (roots k) → y < length g.nodes
      far y lt = sum y (length (roots k)) (length g.nodes) lt shaped.named

  sprouted_shaped : (h : Graph) → IsSprouted k g h → IsShaped k h
  sprouted_shaped h sprout =
      let v = sprout.node in
      let e = sprout.edge in
      let count = node_count k g v e sprout.to in
      subst (IsShaped k) (sym sprout.is) (record {
        down = λ y p up. elim (cases_lt y (length g.nodes)) [
          | inl old ↦ shaped.down y p (sym (old_parent k g v e sprout.to y old) ∙ up)
          | inr past ↦ elim (cases_eq (length g.nodes) y) [
            | inl new ↦
                let at : parent_of (with_node g v e) (length g.nodes) ≡ v.parent = ap (λ o. option_and_then (λ u. u.parent) o) (get_push_new g.nodes v) in
                let is : e.from ≡ p = some_same e.from p (sym sprout.parent ∙ (sym at ∙ subst (λ z. parent_of (with_node g v e) z ≡ Some p) (sym new) up)) in
                subst (λ z. z < y) is (subst (λ z. e.from < z) new sprout.from)
            | inr other ↦
                let beyond : length (with_node g v e).nodes ≤ y = further (length g.nodes) (length (with_node g v e).nodes) y count past other in
                let none : parent_of (with_node g v e) y ≡ None =
                ap (λ o. option_and_then (λ u. u.parent) o) (slice_get_past (with_node g v e).nodes y beyond) in
                let never : None ≡ Some p = sym none ∙ up in cc
          ]
        ];
        inside = one_more (length (with_node g v e).nodes) g.edges e
            (wider (length g.nodes) (length (with_node g v e).nodes) (more (length g.nodes) (length (with_node g v e).nodes) count) g.edges shaped.inside)
            (and_from (nat_lt e.from (length (with_node g v e).nodes)) (nat_lt e.to (length (with_node g v e).nodes))
            (lt-ltb e.from (length (with_node g v e).nodes) (up e.from (length g.nodes) (length (with_node g v e).nodes) sprout.from count))
            (lt-ltb e.to (length (with_node g v e).nodes) (new_in e.to (length g.nodes) (length (with_node g v e).nodes) sprout.to count)));
        named = least (length (roots k)) (length g.nodes) (length (with_node g v e).nodes) shaped.named count;
      })
    where
      some_same : (a b : ℕ) → Some a ≡ Some b → a ≡ b
      some_same a b e = cc

      further : (n m y : ℕ) → m ≡ n + 1 → n ≤ y → (n ≡ y → ⊥) → m ≤ y
      further n m y e le ne = elim (cases_eq n y) [ inl same ↦ absurd (ne same) | inr other ↦ omega arith ]

      more : (n m : ℕ) → m ≡ n + 1 → n ≤ m
      more n m e = omega arith

      up : (x n m : ℕ) → x < n → m ≡ n + 1 → x < m
      up x n m lt e = omega arith

      new_in : (x n m : ℕ) → x ≡ n → m ≡ n + 1 → x < m
      new_in x n m is e = omega arith

      least : (a n m : ℕ) → a ≤ n → m ≡ n + 1 → a ≤ m
      least a n m le e = omega arith

  after_shaped : (s : Step) (choice : ℕ) → applies k g s ≡ true → IsShaped k (after k g s choice)
  after_shaped s choice on = go (grown_by s) refl
    where
      inner : (b : Bool) → sprouts s.rule ≡ b → grown_by s ≡ None → IsShaped k (after k g s choice)
      inner true new none = sprouted_shaped (after k g s choice) (sprouting k g s choice new on)
      inner false new none = linked_shaped (after k g s choice) (linking k g s choice none new on)

      go : (o : Option ℕ) → grown_by s ≡ o → IsShaped k (after k g s choice)
      go None e = inner (sprouts s.rule) refl e
      go (Some x) e = grown_shaped x (after k g s choice) (growth k g s choice x e)

pub branch_shaped : (k : Theory) (g : Graph) → IsBranch k g → IsShaped k g
branch_shaped k g begun = start_shaped k
branch_shaped k g (stepped before s choice b on lt) = after_shaped k before (branch_shaped k before b) s choice on

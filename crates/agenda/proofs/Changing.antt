-- What classes, an edge and a node leave as it was.
use Rattle.std.proofs.Common.{◌≡◌, ℕ, ◌+◌, ◌<◌, ◌≤◌, ◌==◌, ◌&&◌, ◌||◌, Bool, true, false, List, [], ◌∷◌, ◌++◌, length, set, Option, Some, None, slice_get, subst, refl, sym, ap, ◌∙◌, inl, inr, arith, length-append, length-set}
use Rattle.std.specs.List.{list_any}
use Rattle.std.specs.Option.{option_and_then, option_map_or}
use Rattle.std.proofs.lemmas.Bool.{cases_eq, cases_lt, and_parts, or_cases, or_left, eq-eqb}
use Rattle.std.proofs.lemmas.Option.{slice_get_past}
use Rattle.std.proofs.lemmas.List.Folds.{list_any-append}
use Rattle.wiki_base.proofs.BoolLaws.{not_both}
use Rattle.tableau_rules.proofs.Labels.{get_set_same, get_set_other, get_push_old}
use Rattle.logic_terms.specs.declared.expressions.Role.{Role}
use Rattle.logic_terms.specs.Concept.{Concept}
use Rattle.logic_terms.specs.Same.{has_concept, inverse}
use Rattle.logic_terms.specs.Theory.{Theory, is_below}
use Rattle.tableau_rules.specs.declared.branch.Edge.{Edge}
use Rattle.tableau_rules.specs.Graph.{Graph, Vertex, label_at, parent_of}
use Rattle.tableau_rules.specs.Neighbours.{makes_neighbour}
use Rattle.tableau_rules.specs.Rules.{with_classes, adding, with_edge, with_node}
use Rattle.tableau_bounds.proofs.Labels.{kept_classes}
use Rattle.agenda.proofs.Changes.{Changes}

-- the ends of an edge
abbrev pub ends : Edge → ℕ → Bool
ends e y = (e.from == y) || (e.to == y)

module _ (k : Theory) (g : Graph) where
  pub same_changes : (grows joins : ℕ → Bool) → Changes k g g grows joins
  same_changes grows joins = record {
    count = le_self (length g.nodes);
    parents = λ y lt. refl;
    labels = λ y still. refl;
    more = λ y c h. h;
    edges = λ role y z h. h;
    only = λ role y z apart h. h;
    fresh = λ y past lt. absurd (omega arith);
  }
    where
      le_self : (n : ℕ) → n ≤ n
      le_self n = omega arith

  module _ (x : ℕ) (cs : List Concept) where
    abbrev relabelled : Vertex → Graph
    relabelled v = record { nodes = set g.nodes x (record { parent = v.parent; label = with_classes v.label cs }); edges = g.edges }

    past : slice_get g.nodes x ≡ None → adding g x cs ≡ g
    past at = ap (λ o. option_map_or relabelled o g) at

    is : (v : Vertex) → slice_get g.nodes x ≡ Some v → adding g x cs ≡ relabelled v
    is v at = ap (λ o. option_map_or relabelled o g) at

    label_same : (v : Vertex) → slice_get g.nodes x ≡ Some v → label_at (relabelled v) x ≡ with_classes (label_at g x) cs
    label_same v at =
        ap (λ o. option_map_or (λ u. u.label) o []) (get_set_same g.nodes x v (record { parent = v.parent; label = with_classes v.label cs }) at)
        ∙ ap (λ o. with_classes (option_map_or (λ u. u.label) o []) cs) (sym at)

    label_other : (v : Vertex) (y : ℕ) → (x ≡ y → ⊥) → label_at (relabelled v) y ≡ label_at g y
    label_other v y ne = ap (λ o. option_map_or (λ u. u.label) o [])
        (get_set_other g.nodes x y (record { parent = v.parent; label = with_classes v.label cs }) ne)

    parent_same : (v : Vertex) → slice_get g.nodes x ≡ Some v → (y : ℕ) → parent_of (relabelled v) y ≡ parent_of g y
    parent_same v at y = elim (cases_eq x y) [
      | inl same ↦ subst (λ z. parent_of (relabelled v) z ≡ parent_of g z) same
          (ap (λ o. option_and_then (λ u. u.parent) o) (get_set_same g.nodes x v (record { parent = v.parent; label = with_classes v.label cs }) at)
          ∙ sym (ap (λ o. option_and_then (λ u. u.parent) o) at))
      | inr other ↦ ap (λ o. option_and_then (λ u. u.parent) o)
          (get_set_other g.nodes x y (record { parent = v.parent; label = with_classes v.label cs }) other)
    ]

    more_label : (v : Vertex) → slice_get g.nodes x ≡ Some v → (y : ℕ) (c : Concept) → has_concept (label_at g y) c ≡ true
        → has_concept (label_at (relabelled v) y) c ≡ true
    more_label v at y c h = elim (cases_eq x y) [
      | inl same ↦ subst (λ z. has_concept (label_at (relabelled v) z) c ≡ true) same
          (ap (λ l. has_concept l c) (label_same v at) ∙ kept_classes (label_at g x) cs c (subst (λ z. has_concept (label_at g z) c ≡ true) (sym same) h))
      | inr other ↦ ap (λ l. has_concept l c) (label_other v y other) ∙ h
    ]

    relabelled_count : (v : Vertex) → length (relabelled v).nodes ≡ length g.nodes
    relabelled_count v = length-set g.nodes x (record { parent = v.parent; label = with_classes v.label cs })

    relabelled_changes : (v : Vertex) → slice_get g.nodes x ≡ Some v → Changes k g (relabelled v) (λ y. x == y) (λ y. false)
    relabelled_changes v at = record {
      count = (let same = relabelled_count v in omega arith);
      parents = λ y lt. parent_same v at y;
      labels = λ y still. label_other v y (λ same. not_both (eq-eqb x y same) still);
      more = more_label v at;
      edges = λ role y z h. h;
      only = λ role y z apart h. h;
      fresh = λ y past lt. (let same = relabelled_count v in absurd (omega arith));
    }

    pub adding_changes : Changes k g (adding g x cs) (λ y. x == y) (λ y. false)
    adding_changes = go (slice_get g.nodes x) refl
      where
        go : (o : Option Vertex) → slice_get g.nodes x ≡ o → Changes k g (adding g x cs) (λ y. x == y) (λ y. false)
        go None at = subst (λ h. Changes k g h (λ y. x == y) (λ y. false)) (sym (past at)) (same_changes (λ y. x == y) (λ y. false))
        go (Some v) at = subst (λ h. Changes k g h (λ y. x == y) (λ y. false)) (sym (is v at)) (relabelled_changes v at)

    pub adding_count : length (adding g x cs).nodes ≡ length g.nodes
    adding_count = go (slice_get g.nodes x) refl
      where
        go : (o : Option Vertex) → slice_get g.nodes x ≡ o → length (adding g x cs).nodes ≡ length g.nodes
        go None at = ap (λ h. length h.nodes) (past at)
        go (Some v) at = ap (λ h. length h.nodes) (is v at) ∙ relabelled_count v

    pub adding_edges : (adding g x cs).edges ≡ g.edges
    adding_edges = go (slice_get g.nodes x) refl
      where
        go : (o : Option Vertex) → slice_get g.nodes x ≡ o → (adding g x cs).edges ≡ g.edges
        go None at = ap (λ h. h.edges) (past at)
        go (Some v) at = ap (λ h. h.edges) (is v at)

    pub adding_parent : (y : ℕ) → parent_of (adding g x cs) y ≡ parent_of g y
    adding_parent y = go (slice_get g.nodes x) refl
      where
        go : (o : Option Vertex) → slice_get g.nodes x ≡ o → parent_of (adding g x cs) y ≡ parent_of g y
        go None at = ap (λ h. parent_of h y) (past at)
        go (Some v) at = ap (λ h. parent_of h y) (is v at) ∙ parent_same v at y

  -- an edge more
  neighbour_more : (e : Edge) (role : Role) (y z : ℕ) → list_any (makes_neighbour k role y z) g.edges ≡ true
      → list_any (makes_neighbour k role y z) (g.edges ++ e ∷ []) ≡ true
  neighbour_more e role y z h = list_any-append (makes_neighbour k role y z) g.edges (e ∷ [])
      ∙ or_left (list_any (makes_neighbour k role y z) g.edges) (list_any (makes_neighbour k role y z) (e ∷ [])) h

  end_of : (e : Edge) (role : Role) (y z : ℕ) → makes_neighbour k role y z e ≡ true → ends e y ≡ true
  end_of e role y z made = elim (or_cases ((e.from == y) && ((e.to == z) && is_below k e.role role))
      ((e.from == z) && ((e.to == y) && is_below k (inverse e.role) role)) made) [
        | inl there ↦ or_left (e.from == y) (e.to == y) (and_parts (e.from == y) ((e.to == z) && is_below k e.role role) there).0
        | inr back ↦ Rattle.std.proofs.lemmas.Bool.or_right (e.from == y) (e.to == y)
            (and_parts (e.to == y) (is_below k (inverse e.role) role) (and_parts (e.from == z) ((e.to == y) && is_below k (inverse e.role) role) back).1).0
      ]

  neighbour_only : (e : Edge) (role : Role) (y z : ℕ) → ends e y ≡ false → list_any (makes_neighbour k role y z) (g.edges ++ e ∷ []) ≡ true
      → list_any (makes_neighbour k role y z) g.edges ≡ true
  neighbour_only e role y z apart h = elim (or_cases (list_any (makes_neighbour k role y z) g.edges) (makes_neighbour k role y z e || false)
      (sym (list_any-append (makes_neighbour k role y z) g.edges (e ∷ [])) ∙ h)) [
        | inl old ↦ old
        | inr new ↦ elim (or_cases (makes_neighbour k role y z e) false new) [ inl it ↦ absurd (not_both (end_of e role y z it) apart) | inr off ↦ cc ]
      ]

  pub edge_changes : (e : Edge) → Changes k g (with_edge g e) (λ y. false) (ends e)
  edge_changes e = record {
    count = le_self (length g.nodes);
    parents = λ y lt. refl;
    labels = λ y still. refl;
    more = λ y c h. h;
    edges = neighbour_more e;
    only = neighbour_only e;
    fresh = λ y past lt. absurd (omega arith);
  }
    where
      le_self : (n : ℕ) → n ≤ n
      le_self n = omega arith

  -- a node more
  module _ (v : Vertex) (e : Edge) (to : e.to ≡ length g.nodes) where
    abbrev larger : Graph
    larger = with_node g v e

    pub node_count : length larger.nodes ≡ length g.nodes + 1
    node_count = length-append g.nodes (v ∷ [])

    old_label : (y : ℕ) → y < length g.nodes → label_at larger y ≡ label_at g y
    old_label y lt = ap (λ o. option_map_or (λ u. u.label) o []) (get_push_old g.nodes v y lt)

    pub old_parent : (y : ℕ) → y < length g.nodes → parent_of larger y ≡ parent_of g y
    old_parent y lt = ap (λ o. option_and_then (λ u. u.parent) o) (get_push_old g.nodes v y lt)

    past_label : (y : ℕ) → (e.to ≡ y → ⊥) → length g.nodes ≤ y → label_at larger y ≡ label_at g y
    past_label y ne le =
        let ne' : length g.nodes ≡ y → ⊥ = λ same. ne (to ∙ same) in
        let beyond : length larger.nodes ≤ y = further y ne' le in
        ap (λ o. option_map_or (λ u. u.label) o []) (slice_get_past larger.nodes y beyond)
        ∙ sym (ap (λ o. option_map_or (λ u. u.label) o []) (slice_get_past g.nodes y le))
      where
        sum : (n m y : ℕ) → m ≡ n + 1 → (n ≡ y → ⊥) → n ≤ y → m ≤ y
        sum n m y e ne le = elim (cases_eq n y) [ inl same ↦ absurd (ne same) | inr other ↦ omega arith ]

        further : (y : ℕ) → (length g.nodes ≡ y → ⊥) → length g.nodes ≤ y → length larger.nodes ≤ y
        further y ne le = sum (length g.nodes) (length larger.nodes) y node_count ne le

    still_label : (y : ℕ) → (e.to == y) ≡ false → label_at larger y ≡ label_at g y
    still_label y still = elim (cases_lt y (length g.nodes)) [
      | inl lt ↦ old_label y lt
      | inr le ↦ past_label y (λ same. not_both (eq-eqb e.to y same) still) le
    ]

    none_more : (y : ℕ) (c : Concept) → has_concept (label_at g y) c ≡ true → has_concept (label_at larger y) c ≡ true
    none_more y c h = elim (cases_lt y (length g.nodes)) [
      | inl lt ↦ ap (λ l. has_concept l c) (old_label y lt) ∙ h
      | inr le ↦ (let none : has_concept (label_at g y) c ≡ false = ap (λ o. has_concept (option_map_or (λ u. u.label) o []) c) (slice_get_past g.nodes y le) in
          absurd (not_both h none))
    ]

    only_new : (y : ℕ) → length g.nodes ≤ y → y < length larger.nodes → (e.to == y) ≡ true
    only_new y le lt = eq-eqb e.to y (it y le (subst (λ n. y < n) node_count lt))
      where
        it : (y : ℕ) → length g.nodes ≤ y → y < length g.nodes + 1 → e.to ≡ y
        it y le lt = omega arith

    pub node_changes : Changes k g larger (λ y. e.to == y) (ends e)
    node_changes = record {
      count = (let same = node_count in omega arith);
      parents = old_parent;
      labels = still_label;
      more = none_more;
      edges = neighbour_more e;
      only = neighbour_only e;
      fresh = only_new;
    }

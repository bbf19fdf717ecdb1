-- What each step does to a branch.
use Rattle.std.proofs.Common.{◌≡◌, ℕ, zero, suc, ◌+◌, ◌<◌, ◌≤◌, ◌==◌, ◌&&◌, ◌⊎◌, Bool, true, false, List, [], ◌∷◌, ◌++◌, map, filter, length, set, cond, Option, Some, None, slice_get, refl, sym, ap, ◌∙◌, subst, inl, inr, arith, length-append, length-set, append-nil}
use Rattle.std.specs.Prelude.{not, nat_lt, option_to_list}
use Rattle.std.specs.List.{list_any, flat_map}
use Rattle.std.specs.Option.{option_map_or, option_and_then, option_or}
use Rattle.std.proofs.lemmas.Bool.{cases_eq, cases_lt, and_parts, and_from, or_cases, or_left, or_right, eqb-true, eq-eqb, not-true}
use Rattle.std.proofs.lemmas.Option.{slice_get_within, slice_get_past}
use Rattle.std.proofs.lemmas.List.Folds.{list_any-append}
use Rattle.wiki_base.specs.declared.numbers.WordId.{WordId}
use Rattle.tableau_rules.proofs.Firsts.{where_parts}
use Rattle.tableau_rules.proofs.Labels.{get_set_same, get_set_other, get_push_old, get_push_new, there_is, has_here, has_node, neighbour_more}
use Rattle.logic_terms.specs.declared.expressions.Role.{Role}
use Rattle.logic_terms.specs.Concept.{Concept}
use Rattle.logic_terms.specs.Complement.{complement}
use Rattle.logic_terms.specs.Meaning.{some_below}
use Rattle.logic_terms.specs.Parts.{word_part, intersection_part, union_part, some_part, all_part, value_part}
use Rattle.logic_terms.specs.Same.{same_role, same_concept, has_concept, inverse}
use Rattle.logic_terms.specs.Theory.{Theory, is_below}
use Rattle.logic_terms.proofs.SameLemmas.{same_role-self, same_concept-equal, same_concept-self}
use Rattle.tableau_rules.specs.declared.branch.Edge.{Edge}
use Rattle.tableau_rules.specs.declared.step.Rule.{Rule}
use Rattle.tableau_rules.specs.declared.step.Rule.TheVariants as rule
use Rattle.tableau_rules.specs.declared.step.Step.{Step}
use Rattle.tableau_rules.specs.First.{first_below, where_true}
use Rattle.tableau_rules.specs.Graph.{Graph, Vertex, label_at, class_at, parent_of}
use Rattle.tableau_rules.specs.Neighbours.{node_of, makes_neighbour, is_neighbour}
use Rattle.tableau_rules.specs.Carrying.{role_of_all, along, both_ways, carriers, carried}
use Rattle.tableau_rules.specs.Clashes.{passes}
use Rattle.tableau_rules.specs.Blocking.{is_blocked, is_indirectly_blocked}
use Rattle.tableau_rules.specs.Rules.{lacks_some, lacks_all, unfoldings_of, open_members, unit_member, serves, needs, row, site, applies, with_classes, adding, with_edge, with_node, choices_for, choices, effect, after}
use Rattle.tableau_bounds.specs.Enough.{class_occurrences}
use Rattle.tableau_bounds.proofs.Parts.{Within, general_within, unfoldings_within, intersection_within, union_within, some_within, all_class_within, along_within, carried_within, any_kept}
use Rattle.tableau_bounds.proofs.Labels.{filter_within, one_within, new_classes, only_classes, BeginsWith, with_classes_begins, lacking_grows, lacks_one, lacks_member, Unique, unique_classes}

-- whether the node of a value class is a neighbour by its role
abbrev pub is_linked : Theory → Graph → ℕ → Concept → Bool
is_linked k g x c = passes (value_part c) (λ p. passes (node_of k p.1) (is_neighbour k g p.0 x))

-- a label got longer, a value class got its edge, or a class of some successor got its node
pub data Move (k : Theory) (g h : Graph) : Type 0 where
  label_grows : (x : ℕ) → x < length g.nodes → length h.nodes ≡ length g.nodes → length (label_at g x) < length (label_at h x) → Move k g h
  edge_comes : (x : ℕ) (c : Concept) → x < length g.nodes → length h.nodes ≡ length g.nodes → has_concept (label_at g x) c ≡ true → is_linked k g x c ≡ false
      → is_linked k h x c ≡ true → Move k g h
  node_comes : (x : ℕ) (c : Concept) (p : Role × Concept) → x < length g.nodes → length h.nodes ≡ length g.nodes + 1 → parent_of h (length g.nodes) ≡ Some x
      → has_concept (label_at g x) c ≡ true → some_part c ≡ Some p → is_blocked k g x ≡ false → some_below (length g.nodes) (serves k g p.0 p.1 x) ≡ false
      → is_neighbour k h p.0 x (length g.nodes) ≡ true → has_concept (label_at h (length g.nodes)) p.1 ≡ true → Move k g h

abbrev pub ParentsBelow : Graph → Type 0
ParentsBelow g = (y p : ℕ) → parent_of g y ≡ Some p → p < y

-- what a branch after a step has of the one before
pub record IsStep (k : Theory) (g h : Graph) : Type 0 where
  pub nodes : length g.nodes ≤ length h.nodes
  pub parents : (y : ℕ) → y < length g.nodes → parent_of h y ≡ parent_of g y
  pub down : ParentsBelow g → ParentsBelow h
  pub labels : (y : ℕ) → y < length g.nodes → BeginsWith (label_at g y) (label_at h y)
  pub edges : (role : Role) (x y : ℕ) → is_neighbour k g role x y ≡ true → is_neighbour k h role x y ≡ true
  pub within : ((y : ℕ) → Within (label_at g y) (class_occurrences k)) → (y : ℕ) → Within (label_at h y) (class_occurrences k)
  pub unique : ((y : ℕ) → Unique (label_at g y)) → (y : ℕ) → Unique (label_at h y)
  pub move : Move k g h

begins_same : (label new : List Concept) → new ≡ label → BeginsWith label new
begins_same label new is = ([], is ∙ sym (append-nil label))

-- classes are added to a label that lacks some of them
module _ (k : Theory) (g : Graph) (x : ℕ) (cs : List Concept) (v : Vertex) (at : slice_get g.nodes x ≡ Some v) where
  abbrev relabelled : Graph
  relabelled = record { nodes = set g.nodes x (record { parent = v.parent; label = with_classes v.label cs }); edges = g.edges }

  adding_is : adding g x cs ≡ relabelled
  adding_is = ap (λ o. option_map_or (λ v. record { nodes = set g.nodes x (record { parent = v.parent; label = with_classes v.label cs }); edges = g.edges }) o
      g) at

  count : length relabelled.nodes ≡ length g.nodes
  count = length-set g.nodes x (record { parent = v.parent; label = with_classes v.label cs })

  label_same : label_at relabelled x ≡ with_classes (label_at g x) cs
  label_same =
      ap (λ o. option_map_or (λ u. u.label) o []) (get_set_same g.nodes x v (record { parent = v.parent; label = with_classes v.label cs }) at)
      ∙ ap (λ o. with_classes (option_map_or (λ u. u.label) o []) cs) (sym at)

  label_other : (y : ℕ) → (x ≡ y → ⊥) → label_at relabelled y ≡ label_at g y
  label_other y ne = ap (λ o. option_map_or (λ u. u.label) o []) (get_set_other g.nodes x y (record { parent = v.parent; label = with_classes v.label cs }) ne)

  parent_same : (y : ℕ) → parent_of relabelled y ≡ parent_of g y
  parent_same y = elim (cases_eq x y) [
    | inl same ↦ subst (λ z. parent_of relabelled z ≡ parent_of g z) same
        (ap (λ o. option_and_then (λ u. u.parent) o) (get_set_same g.nodes x v (record { parent = v.parent; label = with_classes v.label cs }) at)
        ∙ sym (ap (λ o. option_and_then (λ u. u.parent) o) at))
    | inr other ↦ ap (λ o. option_and_then (λ u. u.parent) o) (get_set_other g.nodes x y (record { parent = v.parent; label = with_classes v.label cs }) other)
  ]

  relabelled_step : lacks_some (label_at g x) cs ≡ true → Within cs (class_occurrences k) → IsStep k g relabelled
  relabelled_step lacks inside = record {
    nodes = same_le (length g.nodes) (length relabelled.nodes) count;
    parents = λ y lt. parent_same y;
    down = λ down y p up. down y p (sym (parent_same y) ∙ up);
    labels = λ y lt. elim (cases_eq x y) [
      | inl same ↦ subst (λ z. BeginsWith (label_at g z) (label_at relabelled z)) same
          (subst (BeginsWith (label_at g x)) (sym label_same) (with_classes_begins (label_at g x) cs))
      | inr other ↦ begins_same (label_at g y) (label_at relabelled y) (label_other y other)
    ];
    edges = λ role y z h. h;
    within = λ old y. elim (cases_eq x y) [
      | inl same ↦ subst (λ z. Within (label_at relabelled z) (class_occurrences k)) same
          (subst (λ l. Within l (class_occurrences k)) (sym label_same) (only_classes (label_at g x) cs (class_occurrences k) (old x) inside))
      | inr other ↦ subst (λ l. Within l (class_occurrences k)) (sym (label_other y other)) (old y)
    ];
    unique = λ old y. elim (cases_eq x y) [
      | inl same ↦ subst (λ z. Unique (label_at relabelled z)) same (subst Unique (sym label_same) (unique_classes (label_at g x) cs (old x)))
      | inr other ↦ subst Unique (sym (label_other y other)) (old y)
    ];
    move = label_grows x (slice_get_within g.nodes x v at) count
        (subst (λ l. length (label_at g x) < length l) (sym label_same) (lacking_grows (label_at g x) cs lacks));
  }
    where
      same_le : (a b : ℕ) → b ≡ a → a ≤ b
      same_le a b e = omega arith

pub adding_step : (k : Theory) (g : Graph) (x : ℕ) (cs : List Concept) → x < length g.nodes → lacks_some (label_at g x) cs ≡ true
    → Within cs (class_occurrences k) → IsStep k g (adding g x cs)
adding_step k g x cs lt lacks inside =
    let v = there_is g.nodes x lt in
    subst (IsStep k g) (sym (adding_is k g x cs v.0 v.1)) (relabelled_step k g x cs v.0 v.1 lacks inside)

-- an edge makes its ends neighbours by its role
neighbour_new : (k : Theory) (es : List Edge) (role : Role) (x y : ℕ)
    → (let e : Edge = record { from = x; role = role; to = y } in list_any (makes_neighbour k role x y) (es ++ e ∷ []) ≡ true)
neighbour_new k es role x y =
    let e : Edge = record { from = x; role = role; to = y } in
    let below : is_below k role role ≡ true =
    or_left (same_role role role) (list_any (λ p. same_role p.0 role && same_role p.1 role) k.hierarchy) (same_role-self role) in
    let there : ((x == x) && ((y == y) && is_below k role role)) ≡ true =
    and_from (x == x) ((y == y) && is_below k role role) (eq-eqb x x refl) (and_from (y == y) (is_below k role role) (eq-eqb y y refl) below) in
    let made : makes_neighbour k role x y e ≡ true =
    or_left ((x == x) && ((y == y) && is_below k role role)) ((e.from == y) && ((e.to == x) && is_below k (inverse e.role) role)) there in
    list_any-append (makes_neighbour k role x y) es (e ∷ [])
    ∙ or_right (list_any (makes_neighbour k role x y) es) (list_any (makes_neighbour k role x y) (e ∷ []))
    (or_left (makes_neighbour k role x y e) false made)

linked_is : (k : Theory) (h : Graph) (x : ℕ) (c : Concept) (p : Role × WordId) (z : ℕ) → value_part c ≡ Some p → node_of k p.1 ≡ Some z
    → is_linked k h x c ≡ is_neighbour k h p.0 x z
linked_is k h x c p z value node =
    ap (λ o. passes o (λ p. passes (node_of k p.1) (is_neighbour k h p.0 x))) value ∙ ap (λ o. passes o (is_neighbour k h p.0 x)) node

-- an edge is added
with_edge_step : (k : Theory) (g : Graph) (x : ℕ) (c : Concept) (p : Role × WordId) (z : ℕ) → has_concept (label_at g x) c ≡ true → value_part c ≡ Some p
    → node_of k p.1 ≡ Some z → is_neighbour k g p.0 x z ≡ false → (let e : Edge = record { from = x; role = p.0; to = z } in IsStep k g (with_edge g e))
with_edge_step k g x c p z has value node apart =
    let e : Edge = record { from = x; role = p.0; to = z } in
    record {
      nodes = le_self (length g.nodes);
      parents = λ y lt. refl;
      down = λ down. down;
      labels = λ y lt. begins_same (label_at g y) (label_at g y) refl;
      edges = λ role y w h. neighbour_more k g.edges e role y w h;
      within = λ old. old;
      unique = λ old. old;
      move = edge_comes x c (has_node g x c has) refl has (linked_is k g x c p z value node ∙ apart)
          (linked_is k (with_edge g e) x c p z value node ∙ neighbour_new k g.edges p.0 x z);
    }
  where
    le_self : (n : ℕ) → n ≤ n
    le_self n = omega arith

-- a node is added, with an edge to it
module _ (k : Theory) (g : Graph) (x : ℕ) (c : Concept) (p : Role × Concept) (has : has_concept (label_at g x) c ≡ true) where
  abbrev fresh : Vertex
  fresh = record { parent = Some x; label = with_classes [] (p.1 ∷ k.general) }

  abbrev link : Edge
  link = record { from = x; role = p.0; to = length g.nodes }

  abbrev larger : Graph
  larger = with_node g fresh link

  larger_count : length larger.nodes ≡ length g.nodes + 1
  larger_count = length-append g.nodes (fresh ∷ [])

  old_label : (y : ℕ) → y < length g.nodes → label_at larger y ≡ label_at g y
  old_label y lt = ap (λ o. option_map_or (λ u. u.label) o []) (get_push_old g.nodes fresh y lt)

  old_parent : (y : ℕ) → y < length g.nodes → parent_of larger y ≡ parent_of g y
  old_parent y lt = ap (λ o. option_and_then (λ u. u.parent) o) (get_push_old g.nodes fresh y lt)

  new_label : label_at larger (length g.nodes) ≡ with_classes [] (p.1 ∷ k.general)
  new_label = ap (λ o. option_map_or (λ u. u.label) o []) (get_push_new g.nodes fresh)

  new_parent : parent_of larger (length g.nodes) ≡ Some x
  new_parent = ap (λ o. option_and_then (λ u. u.parent) o) (get_push_new g.nodes fresh)

  -- a place is that of an old node, the new one's, or past all
  where_is : (y : ℕ) → (y < length g.nodes) ⊎ ((length g.nodes ≡ y) ⊎ (length larger.nodes ≤ y))
  where_is y = elim (cases_lt y (length g.nodes)) [
    | inl old ↦ inl old
    | inr past ↦ elim (cases_eq y (length g.nodes)) [ inl new ↦ inr (inl (sym new)) | inr other ↦ inr (inr (omega (arith, larger_count))) ]
  ]

  past_label : (y : ℕ) → length larger.nodes ≤ y → label_at larger y ≡ []
  past_label y past = ap (λ o. option_map_or (λ u. u.label) o []) (slice_get_past larger.nodes y past)

  past_parent : (y : ℕ) → length larger.nodes ≤ y → parent_of larger y ≡ None
  past_parent y past = ap (λ o. option_and_then (λ u. u.parent) o) (slice_get_past larger.nodes y past)

  fresh_within : has_concept (class_occurrences k) p.1 ≡ true → Within (with_classes [] (p.1 ∷ k.general)) (class_occurrences k)
  fresh_within there =
      only_classes [] (p.1 ∷ k.general) (class_occurrences k) (λ e h. cc) (λ e h. elim (or_cases (same_concept p.1 e) (has_concept k.general e) h) [
        | inl same ↦ subst (λ z. has_concept (class_occurrences k) z ≡ true) (same_concept-equal p.1 e same) there
        | inr general ↦ general_within k e general
      ])

  larger_step : some_part c ≡ Some p → has_concept (class_occurrences k) p.1 ≡ true → is_blocked k g x ≡ false
      → some_below (length g.nodes) (serves k g p.0 p.1 x) ≡ false → IsStep k g larger
  larger_step part there free alone = record {
    nodes = more (length g.nodes) (length larger.nodes) larger_count;
    parents = old_parent;
    down = λ down y q up. elim (where_is y) [
      | inl old ↦ down y q (sym (old_parent y old) ∙ up)
      | inr rest ↦ elim rest [
        | inl new ↦
            let is : x ≡ q = some_same x q (sym new_parent ∙ subst (λ z. parent_of larger z ≡ Some q) (sym new) up) in
            subst (λ z. z < y) is (subst (λ z. x < z) new (has_node g x c has))
        | inr past ↦ (let none : None ≡ Some q = sym (past_parent y past) ∙ up in cc)
      ]
    ];
    labels = λ y lt. begins_same (label_at g y) (label_at larger y) (old_label y lt);
    edges = λ role y z h. neighbour_more k g.edges link role y z h;
    within = λ old y. elim (where_is y) [
      | inl here ↦ subst (λ l. Within l (class_occurrences k)) (sym (old_label y here)) (old y)
      | inr rest ↦ elim rest [
        | inl new ↦ subst (λ z. Within (label_at larger z) (class_occurrences k)) new
            (subst (λ l. Within l (class_occurrences k)) (sym new_label) (fresh_within there))
        | inr past ↦ subst (λ l. Within l (class_occurrences k)) (sym (past_label y past)) (λ e h. cc)
      ]
    ];
    unique = λ old y. elim (where_is y) [
      | inl here ↦ subst Unique (sym (old_label y here)) (old y)
      | inr rest ↦ elim rest [
        | inl new ↦ subst (λ z. Unique (label_at larger z)) new (subst Unique (sym new_label) (unique_classes [] (p.1 ∷ k.general) tt))
        | inr past ↦ subst Unique (sym (past_label y past)) tt
      ]
    ];
    move = node_comes x c p (has_node g x c has) larger_count new_parent has part free alone (neighbour_new k g.edges p.0 x (length g.nodes))
        (subst (λ l. has_concept l p.1 ≡ true) (sym new_label)
        (new_classes [] (p.1 ∷ k.general) p.1 (or_left (same_concept p.1 p.1) (has_concept k.general p.1) (same_concept-self p.1))));
  }
    where
      more : (a b : ℕ) → b ≡ a + 1 → a ≤ b
      more a b e = omega arith

      some_same : (a b : ℕ) → Some a ≡ Some b → a ≡ b
      some_same a b e = cc

found_below : (n : ℕ) (f : ℕ → Option ℕ) (x : ℕ) → first_below n f ≡ Some x → (m : ℕ) × (m < n) × (f m ≡ Some x)
found_below zero f x h = cc
found_below (suc n) f x h = elim (from_or (first_below n f) (f n) h) [
  | inl before ↦ let found = found_below n f x before in (found.0, later found.0 n found.1, found.2)
  | inr here ↦ (n, now n, here)
]
  where
    from_or : (a b : Option ℕ) → option_or a b ≡ Some x → (a ≡ Some x) ⊎ (b ≡ Some x)
    from_or None b e = inr e
    from_or (Some y) b e = inl e

    later : (m n : ℕ) → m < n → m < suc n
    later m n lt = omega arith

    now : (n : ℕ) → n < suc n
    now n = omega arith

-- the member of `unit` is one
unit_found : (label cs : List Concept) → 0 < length cs → (d : Concept) × (unit_member label cs ≡ Some d) × (has_concept cs d ≡ true)
unit_found label cs pos = go (slice_get (open_members label cs) 0) refl
  where
    go : (o : Option Concept) → slice_get (open_members label cs) 0 ≡ o → (d : Concept) × (option_or o (slice_get cs 0) ≡ Some d) × (has_concept cs d ≡ true)
    go (Some d) is = (d, refl, filter_within (λ c. not (has_concept label (complement c))) cs d (has_here (open_members label cs) 0 d is))
    go None is = let first = there_is cs 0 pos in (first.0, first.1, has_here cs 0 first.0 first.1)

-- a role by which y lacks what is carried to it is one by which y is a neighbour
lacks_carried : (k : Theory) (g : Graph) (c : Concept) (x y : ℕ) (ts : List Role) → list_any (λ t. needs k g t (along t c) x y) ts ≡ true
    → lacks_some (label_at g y) (map (λ t. along t c) (filter (λ t. is_neighbour k g t x y) ts)) ≡ true
lacks_carried k g c x y [] h = cc
lacks_carried k g c x y (t ∷ ts) h =
    go (is_neighbour k g t x y) refl (or_cases (needs k g t (along t c) x y) (list_any (λ s. needs k g s (along s c) x y) ts) h) (lacks_carried k g c x y ts)
  where
    others : List Concept
    others = map (λ s. along s c) (filter (λ s. is_neighbour k g s x y) ts)

    lacks : needs k g t (along t c) x y ≡ true → not (has_concept (label_at g y) (along t c)) ≡ true
    lacks here =
        (and_parts (not (is_indirectly_blocked k g y)) (not (has_concept (label_at g y) (along t c)))
        (and_parts (is_neighbour k g t x y) (not (is_indirectly_blocked k g y) && not (has_concept (label_at g y) (along t c))) here).1).1

    near : needs k g t (along t c) x y ≡ true → is_neighbour k g t x y ≡ true
    near here = (and_parts (is_neighbour k g t x y) (not (is_indirectly_blocked k g y) && not (has_concept (label_at g y) (along t c))) here).0

    go : (b : Bool) → is_neighbour k g t x y ≡ b → (needs k g t (along t c) x y ≡ true) ⊎ (list_any (λ s. needs k g s (along s c) x y) ts ≡ true)
        → (list_any (λ s. needs k g s (along s c) x y) ts ≡ true → lacks_some (label_at g y) others ≡ true)
        → lacks_some (label_at g y) (map (λ s. along s c) (cond b (t ∷ filter (λ s. is_neighbour k g s x y) ts) (filter (λ s. is_neighbour k g s x y) ts)))
        ≡ true
    go true e (inl here) rest = or_left (not (has_concept (label_at g y) (along t c))) (lacks_some (label_at g y) others) (lacks here)
    go true e (inr later) rest = or_right (not (has_concept (label_at g y) (along t c))) (lacks_some (label_at g y) others) (rest later)
    go false e (inl here) rest = let is : is_neighbour k g t x y ≡ true = near here in cc
    go false e (inr later) rest = rest later

-- each union among the class occurrences has a member
abbrev pub UnionsHaveMembers : Theory → Type 0
UnionsHaveMembers k = (c : Concept) (cs : List Concept) → has_concept (class_occurrences k) c ≡ true → union_part c ≡ Some cs → 0 < length cs

module _ (k : Theory) (g : Graph) (filled : UnionsHaveMembers k) (inside : (y : ℕ) → Within (label_at g y) (class_occurrences k)) where
  one_member : (x : ℕ) (cs : List Concept) (d : Concept) (o : Option Concept) → o ≡ Some d → x < length g.nodes → lacks_all (label_at g x) cs ≡ true
      → has_concept cs d ≡ true → has_concept (class_occurrences k) d ≡ true → IsStep k g (adding g x (option_to_list o))
  one_member x cs d o is lt lacks has there =
      subst (λ q. IsStep k g (adding g x (option_to_list q))) (sym is)
      (adding_step k g x (d ∷ []) lt (lacks_one (label_at g x) d (lacks_member (label_at g x) cs d lacks has)) (one_within d (class_occurrences k) there))

  effect_step : (r : Rule) (x : ℕ) (c : Concept) (y choice : ℕ) → has_concept (label_at g x) c ≡ true → row k g r x c ≡ Some y → choice < choices_for r c
      → IsStep k g (effect k g r x c y choice)
  effect_step rule.And x c y choice has applies choose = go (intersection_part c) refl applies
    where
      go : (o : Option (List Concept)) → intersection_part c ≡ o → option_and_then (λ cs. where_true (lacks_some (label_at g x) cs) 0) o ≡ Some y
          → IsStep k g (option_map_or (adding g x) o g)
      go None part on = cc
      go (Some cs) part on = adding_step k g x cs (has_node g x c has) (where_parts (lacks_some (label_at g x) cs) 0 y on).0
          (intersection_within k c cs (inside x c has) part)
  effect_step rule.Unfold x c y choice has applies choose = go (word_part c) applies
    where
      go : (o : Option WordId) → option_and_then (λ word. where_true (lacks_some (label_at g x) (unfoldings_of k word)) 0) o ≡ Some y
          → IsStep k g (option_map_or (λ word. adding g x (unfoldings_of k word)) o g)
      go None on = cc
      go (Some word) on = adding_step k g x (unfoldings_of k word) (has_node g x c has)
          (where_parts (lacks_some (label_at g x) (unfoldings_of k word)) 0 y on).0 (unfoldings_within k word)
  effect_step rule.All x c y choice has applies choose = go (all_part c) refl applies
    where
      go : (o : Option (Role × Concept)) → all_part c ≡ o
          → option_and_then (λ p. first_below (length g.nodes) (λ z. where_true (needs k g p.0 p.1 x z) z)) o ≡ Some y
          → IsStep k g (option_map_or (λ p. adding g y (p.1 ∷ [])) o g)
      go None part on = cc
      go (Some p) part on =
          let found = found_below (length g.nodes) (λ z. where_true (needs k g p.0 p.1 x z) z) y on in
          let is = where_parts (needs k g p.0 p.1 x found.0) found.0 y found.2 in
          let one = and_parts (is_neighbour k g p.0 x found.0) (not (is_indirectly_blocked k g found.0) && not (has_concept (label_at g found.0) p.1)) is.0 in
          let two = and_parts (not (is_indirectly_blocked k g found.0)) (not (has_concept (label_at g found.0) p.1)) one.1 in
          subst (λ z. IsStep k g (adding g z (p.1 ∷ []))) is.1
          (adding_step k g found.0 (p.1 ∷ []) found.1 (lacks_one (label_at g found.0) p.1 (not-true (has_concept (label_at g found.0) p.1) two.1))
          (one_within p.1 (class_occurrences k) (all_class_within k c p (inside x c has) part)))
  effect_step rule.Trans x c y choice has applies choose = go (role_of_all c) applies
    where
      within : (role : Role) (z : ℕ) → Within (carried k g role c x z) (class_occurrences k)
      within role z =
          carried_within (class_occurrences k) c (filter (λ t. is_neighbour k g t x z) (carriers k role))
          (λ t there. along_within k c t (inside x c has)
          (any_kept (λ s. same_role s t) (λ s. is_below k s role) (flat_map both_ways k.transitive)
          (any_kept (λ s. same_role s t) (λ s. is_neighbour k g s x z) (carriers k role) there)))

      go : (o : Option Role)
          → option_and_then (λ role. first_below (length g.nodes) (λ z. where_true (list_any (λ t. needs k g t (along t c) x z) (carriers k role)) z)) o
          ≡ Some y
          → IsStep k g (option_map_or (λ role. adding g y (carried k g role c x y)) o g)
      go None on = cc
      go (Some role) on =
          let found = found_below (length g.nodes) (λ z. where_true (list_any (λ t. needs k g t (along t c) x z) (carriers k role)) z) y on in
          let is = where_parts (list_any (λ t. needs k g t (along t c) x found.0) (carriers k role)) found.0 y found.2 in
          subst (λ z. IsStep k g (adding g z (carried k g role c x z))) is.1
          (adding_step k g found.0 (carried k g role c x found.0) found.1 (lacks_carried k g c x found.0 (carriers k role) is.0) (within role found.0))
  effect_step rule.Value x c y choice has applies choose = go (value_part c) refl applies
    where
      inner : (p : Role × WordId) → value_part c ≡ Some p → (o : Option ℕ) → node_of k p.1 ≡ o
          → option_and_then (λ z. where_true (not (is_blocked k g x) && not (is_neighbour k g p.0 x z)) 0) o ≡ Some y
          → IsStep k g (option_map_or (λ z. with_edge g (record { from = x; role = p.0; to = z })) o g)
      inner p part None node on = cc
      inner p part (Some z) node on =
          let is = where_parts (not (is_blocked k g x) && not (is_neighbour k g p.0 x z)) 0 y on in
          with_edge_step k g x c p z has part node
          (not-true (is_neighbour k g p.0 x z) (and_parts (not (is_blocked k g x)) (not (is_neighbour k g p.0 x z)) is.0).1)

      go : (o : Option (Role × WordId)) → value_part c ≡ o
          → option_and_then (λ p. option_and_then (λ z. where_true (not (is_blocked k g x) && not (is_neighbour k g p.0 x z)) 0) (node_of k p.1)) o ≡ Some y
          → IsStep k g (option_map_or (λ p. option_map_or (λ z. with_edge g (record { from = x; role = p.0; to = z })) (node_of k p.1) g) o g)
      go None part on = cc
      go (Some p) part on = inner p part (node_of k p.1) refl on
  effect_step rule.Unit x c y choice has applies choose = go (union_part c) refl applies
    where
      go : (o : Option (List Concept)) → union_part c ≡ o
          → option_and_then (λ cs. where_true (lacks_all (label_at g x) cs && nat_lt (length (open_members (label_at g x) cs)) 2) 0) o ≡ Some y
          → IsStep k g (option_map_or (λ cs. adding g x (option_to_list (unit_member (label_at g x) cs))) o g)
      go None part on = cc
      go (Some cs) part on =
          let is = where_parts (lacks_all (label_at g x) cs && nat_lt (length (open_members (label_at g x) cs)) 2) 0 y on in
          let lacks = (and_parts (lacks_all (label_at g x) cs) (nat_lt (length (open_members (label_at g x) cs)) 2) is.0).0 in
          let found = unit_found (label_at g x) cs (filled c cs (inside x c has) part) in
          one_member x cs found.0 (unit_member (label_at g x) cs) found.1 (has_node g x c has) lacks found.2
          (union_within k c cs (inside x c has) part found.0 found.2)
  effect_step rule.Or x c y choice has applies choose = go (union_part c) refl applies choose
    where
      go : (o : Option (List Concept)) → union_part c ≡ o → option_and_then (λ cs. where_true (lacks_all (label_at g x) cs) 0) o ≡ Some y
          → choice < option_map_or length o 1 → IsStep k g (option_map_or (λ cs. adding g x (option_to_list (slice_get cs choice))) o g)
      go None part on lt = cc
      go (Some cs) part on lt =
          let is = where_parts (lacks_all (label_at g x) cs) 0 y on in
          let found = there_is cs choice lt in
          let member = has_here cs choice found.0 found.1 in
          one_member x cs found.0 (slice_get cs choice) found.1 (has_node g x c has) is.0 member (union_within k c cs (inside x c has) part found.0 member)
  effect_step rule.Some x c y choice has applies choose = go (some_part c) refl applies
    where
      go : (o : Option (Role × Concept)) → some_part c ≡ o
          → option_and_then (λ p. where_true (not (is_blocked k g x) && not (some_below (length g.nodes) (serves k g p.0 p.1 x))) 0) o ≡ Some y
          → IsStep k g (option_map_or (λ p. with_node g (record { parent = Some x; label = with_classes [] (p.1 ∷ k.general) })
          (record { from = x; role = p.0; to = length g.nodes })) o g)
      go None part on = cc
      go (Some p) part on =
          let is = where_parts (not (is_blocked k g x) && not (some_below (length g.nodes) (serves k g p.0 p.1 x))) 0 y on in
          let two = and_parts (not (is_blocked k g x)) (not (some_below (length g.nodes) (serves k g p.0 p.1 x))) is.0 in
          larger_step k g x c p has part (some_within k c p (inside x c has) part) (not-true (is_blocked k g x) two.0)
          (not-true (some_below (length g.nodes) (serves k g p.0 p.1 x)) two.1)

  site_parts : (r : Rule) (x : ℕ) (c : Concept) (y : ℕ) (b : Bool) → cond b None (row k g r x c) ≡ Some y → row k g r x c ≡ Some y
  site_parts r x c y true h = cc
  site_parts r x c y false h = h

  -- a step that applies is one
  pub after_step : (s : Step) (choice : ℕ) → applies k g s ≡ true → choice < choices g s → IsStep k g (after k g s choice)
  after_step s choice on choose = go (class_at g s.node s.class) refl on choose
    where
      found : (c : Concept) → class_at g s.node s.class ≡ Some c → choice < choices_for s.rule c → (o : Option ℕ) → site k g s.rule s.node c ≡ o
          → option_map_or (λ y. y == s.other) o false ≡ true → IsStep k g (effect k g s.rule s.node c s.other choice)
      found c at lt None is e = cc
      found c at lt (Some y) is e =
          subst (λ z. IsStep k g (effect k g s.rule s.node c z choice)) (eqb-true y s.other e)
          (effect_step s.rule s.node c y choice (has_here (label_at g s.node) s.class c at) (site_parts s.rule s.node c y (is_indirectly_blocked k g s.node) is)
          lt)

      go : (o : Option Concept) → class_at g s.node s.class ≡ o → option_map_or (λ y. y == s.other) (option_and_then (site k g s.rule s.node) o) false ≡ true
          → choice < option_map_or (choices_for s.rule) o 1 → IsStep k g (option_map_or (λ c. effect k g s.rule s.node c s.other choice) o g)
      go None at e lt = cc
      go (Some c) at e lt = found c at lt (site k g s.rule s.node c) refl e

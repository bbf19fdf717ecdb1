-- What every branch of lawful knowledge keeps.
use Rattle.std.proofs.Common.{◌≡◌, ℕ, zero, suc, ◌+◌, ◌<◌, ◌≤◌, ◌&&◌, Bool, true, false, List, [], ◌∷◌, ◌++◌, map, length, set, All, Option, Some, None, slice_get, refl, sym, ap, ◌∙◌, subst, inl, inr, arith, length-append, length-set}
use Rattle.std.specs.Prelude.{◌⊎◌, filter, not, nat_lt, if◌then◌else◌}
use Rattle.std.specs.List.{list_all}
use Rattle.std.specs.Option.{option_map_or, option_and_then, option_to_list, option_or}
use Rattle.std.proofs.lemmas.Bool.{cases_eq, cases_lt, and_parts, and_from, or_right, ltb-true, lt-ltb}
use Rattle.std.proofs.lemmas.Option.{slice_get_past}
use Rattle.std.proofs.lemmas.List.Folds.{list_any-append, list_all-append}
use Rattle.wiki_base.specs.declared.numbers.WordId.{WordId}
use Rattle.tableau_rules.proofs.Labels.{get_set_same, get_set_other, get_push_old, get_push_new, each_has, has_here, has_node, neighbour_more}
use Rattle.logic_terms.specs.declared.expressions.Role.{Role}
use Rattle.logic_terms.specs.Concept.{Concept, Concepts, ComplementOf, IntersectionOf, UnionOf, SomeValuesFrom, AllValuesFrom, HasValue, no_concept, also_concept}
use Rattle.logic_terms.specs.Complement.{complement, is_simple, is_normal, each_normal}
use Rattle.logic_terms.specs.Interpretation.{is_word}
use Rattle.logic_terms.specs.Parts.{members_in, word_part, intersection_part, union_part, some_part, all_part, value_part}
use Rattle.logic_terms.specs.Same.{has_concept}
use Rattle.logic_terms.specs.Theory.{Theory, names_given, each_names_given}
use Rattle.tableau_rules.specs.Carrying.{role_of_all, along, carriers, carried}
use Rattle.tableau_rules.specs.declared.branch.Edge.{Edge}
use Rattle.tableau_rules.specs.declared.step.Rule.{Rule}
use Rattle.tableau_rules.specs.declared.step.Rule.TheVariants as rule
use Rattle.tableau_rules.specs.declared.step.Step.{Step}
use Rattle.tableau_rules.specs.Graph.{Graph, Vertex, label_at, class_at, parent_of}
use Rattle.tableau_rules.specs.Neighbours.{roots, node_of, is_neighbour}
use Rattle.tableau_rules.specs.Rules.{unfoldings_of, open_members, unit_member, with_classes, adding, with_edge, with_node, effect, after}
use Rattle.branch_model.proofs.Labels.{kept_classes, new_classes, only_classes}
use Rattle.branch_model.specs.Elements.{ParentsBelow}

-- whether a class is in normal form, over given names
abbrev pub fits : Theory → Concept → Bool
fits k c = is_normal c && names_given k c

-- what every branch keeps
pub record IsSound (k : Theory) (g : Graph) : Type 0 where
  pub parents : ParentsBelow g
  pub parents_in : (x p : ℕ) → parent_of g x ≡ Some p → x < length g.nodes
  pub some : 0 < length g.nodes
  pub first : parent_of g 0 ≡ None
  pub named : (x : ℕ) → x < length (roots k) → x < length g.nodes
  pub rooted : (x : ℕ) → x < length (roots k) → parent_of g x ≡ None
  pub general : (x : ℕ) (c : Concept) → x < length g.nodes → has_concept k.general c ≡ true → has_concept (label_at g x) c ≡ true
  pub fit : (x : ℕ) (c : Concept) → has_concept (label_at g x) c ≡ true → fits k c ≡ true
  pub asserted : All (λ e. (y : ℕ) → node_of k e.0 ≡ Some y → has_concept (label_at g y) e.1 ≡ true) k.assertions
  pub stated : All (λ e. (x y : ℕ) → node_of k e.1 ≡ Some x → node_of k e.2 ≡ Some y → is_neighbour k g e.0 x y ≡ true) k.edges
  pub ends : list_all (λ e. nat_lt e.from (length g.nodes) && nat_lt e.to (length g.nodes)) g.edges ≡ true

-- a branch that has what another one had
pub record Grows (k : Theory) (g h : Graph) : Type 0 where
  pub longer : length g.nodes ≤ length h.nodes
  pub parents : (x : ℕ) → x < length g.nodes → parent_of h x ≡ parent_of g x
  pub labels : (x : ℕ) (c : Concept) → has_concept (label_at g x) c ≡ true → has_concept (label_at h x) c ≡ true
  pub edges : (role : Role) (x y : ℕ) → is_neighbour k g role x y ≡ true → is_neighbour k h role x y ≡ true

-- edges between nodes stay so where nodes are added
ends_longer : (n m : ℕ) (es : List Edge) → n ≤ m → list_all (λ e. nat_lt e.from n && nat_lt e.to n) es ≡ true
    → list_all (λ e. nat_lt e.from m && nat_lt e.to m) es ≡ true
ends_longer n m [] le h = refl
ends_longer n m (e ∷ es) le h =
    let two = and_parts (nat_lt e.from n && nat_lt e.to n) (list_all (λ e. nat_lt e.from n && nat_lt e.to n) es) h in
    let one = and_parts (nat_lt e.from n) (nat_lt e.to n) two.0 in
    let a = ltb-true e.from n one.0 in
    let b = ltb-true e.to n one.1 in
    and_from (nat_lt e.from m && nat_lt e.to m) (list_all (λ e. nat_lt e.from m && nat_lt e.to m) es)
    (and_from (nat_lt e.from m) (nat_lt e.to m) (lt-ltb e.from m (omega arith)) (lt-ltb e.to m (omega arith))) (ends_longer n m es le two.1)

-- what growing keeps
asserted_grows : (k : Theory) (g h : Graph) → Grows k g h → IsSound k g
    → All (λ e. (y : ℕ) → node_of k e.0 ≡ Some y → has_concept (label_at h y) e.1 ≡ true) k.assertions
asserted_grows k g h grows sound = λ j d lt y at. grows.labels y _ (sound.asserted j d lt y at)

stated_grows : (k : Theory) (g h : Graph) → Grows k g h → IsSound k g
    → All (λ e. (x y : ℕ) → node_of k e.1 ≡ Some x → node_of k e.2 ≡ Some y → is_neighbour k h e.0 x y ≡ true) k.edges
stated_grows k g h grows sound = λ j d lt x y from to. grows.edges _ x y (sound.stated j d lt x y from to)

-- classes are added to a label
adding-none : (g : Graph) (x : ℕ) (cs : List Concept) → slice_get g.nodes x ≡ None → adding g x cs ≡ g
adding-none g x cs at =
    ap (λ o. option_map_or (λ v. record { nodes = set g.nodes x (record { parent = v.parent; label = with_classes v.label cs }); edges = g.edges }) o g) at

adding-some : (g : Graph) (x : ℕ) (cs : List Concept) (v : Vertex) → slice_get g.nodes x ≡ Some v
    → adding g x cs ≡ record { nodes = set g.nodes x (record { parent = v.parent; label = with_classes v.label cs }); edges = g.edges }
adding-some g x cs v at =
    ap (λ o. option_map_or (λ v. record { nodes = set g.nodes x (record { parent = v.parent; label = with_classes v.label cs }); edges = g.edges }) o g) at

pub cases_vertex : (o : Option Vertex) → (o ≡ None) ⊎ ((v : Vertex) × (o ≡ Some v))
cases_vertex None = inl refl
cases_vertex (Some v) = inr (v, refl)

-- a branch with a node's label changed to one with more classes
module _ (k : Theory) (g : Graph) (x : ℕ) (cs : List Concept) (v : Vertex) (at : slice_get g.nodes x ≡ Some v) where
  abbrev relabelled : Graph
  relabelled = record { nodes = set g.nodes x (record { parent = v.parent; label = with_classes v.label cs }); edges = g.edges }

  count : length relabelled.nodes ≡ length g.nodes
  count = length-set g.nodes x (record { parent = v.parent; label = with_classes v.label cs })

  label_same : label_at relabelled x ≡ with_classes (label_at g x) cs
  label_same =
      ap (λ o. option_map_or (λ u. u.label) o []) (get_set_same g.nodes x v (record { parent = v.parent; label = with_classes v.label cs }) at)
      ∙ ap (λ o. with_classes (option_map_or (λ u. u.label) o []) cs) (sym at)

  label_other : (y : ℕ) → (x ≡ y → ⊥) → label_at relabelled y ≡ label_at g y
  label_other y ne = ap (λ o. option_map_or (λ u. u.label) o []) (get_set_other g.nodes x y (record { parent = v.parent; label = with_classes v.label cs }) ne)

  parent_same : (y : ℕ) → parent_of relabelled y ≡ parent_of g y
  parent_same y = elim (cases_eq x y) [
    | inl same ↦ subst (λ z. parent_of relabelled z ≡ parent_of g z) same
        (ap (λ o. option_and_then (λ u. u.parent) o) (get_set_same g.nodes x v (record { parent = v.parent; label = with_classes v.label cs }) at)
        ∙ sym (ap (λ o. option_and_then (λ u. u.parent) o) at))
    | inr other ↦ ap (λ o. option_and_then (λ u. u.parent) o) (get_set_other g.nodes x y (record { parent = v.parent; label = with_classes v.label cs }) other)
  ]

  labels_kept : (y : ℕ) (c : Concept) → has_concept (label_at g y) c ≡ true → has_concept (label_at relabelled y) c ≡ true
  labels_kept y c h = elim (cases_eq x y) [
    | inl same ↦ subst (λ z. has_concept (label_at relabelled z) c ≡ true) same
        (ap (λ l. has_concept l c) label_same ∙ kept_classes (label_at g x) cs c (subst (λ z. has_concept (label_at g z) c ≡ true) (sym same) h))
    | inr other ↦ ap (λ l. has_concept l c) (label_other y other) ∙ h
  ]

  labels_only : (y : ℕ) (c : Concept) → has_concept (label_at relabelled y) c ≡ true → (has_concept (label_at g y) c ≡ true) ⊎ (has_concept cs c ≡ true)
  labels_only y c h = elim (cases_eq x y) [
    | inl same ↦ elim (only_classes (label_at g x) cs c
        (sym (ap (λ l. has_concept l c) label_same) ∙ subst (λ z. has_concept (label_at relabelled z) c ≡ true) (sym same) h)) [
          | inl old ↦ inl (subst (λ z. has_concept (label_at g z) c ≡ true) same old)
          | inr new ↦ inr new
        ]
    | inr other ↦ inl (sym (ap (λ l. has_concept l c) (label_other y other)) ∙ h)
  ]

  grown : Grows k g relabelled
  grown = record {
    longer = omega (arith, count);
    parents = λ y lt. parent_same y;
    labels = labels_kept;
    edges = λ role y z h. h;
  }

  relabelled_sound : list_all (fits k) cs ≡ true → IsSound k g → IsSound k relabelled
  relabelled_sound fit sound = record {
    parents = λ y p up. sound.parents y p (sym (parent_same y) ∙ up);
    parents_in = λ y p up. subst (λ n. y < n) (sym count) (sound.parents_in y p (sym (parent_same y) ∙ up));
    some = subst (λ n. 0 < n) (sym count) sound.some;
    first = parent_same 0 ∙ sound.first;
    named = λ y lt. subst (λ n. y < n) (sym count) (sound.named y lt);
    rooted = λ y lt. parent_same y ∙ sound.rooted y lt;
    general = λ y c lt h. labels_kept y c (sound.general y c (subst (λ n. y < n) count lt) h);
    fit = λ y c h. elim (labels_only y c h) [ inl old ↦ sound.fit y c old | inr new ↦ each_has (fits k) cs c fit new ];
    asserted = asserted_grows k g relabelled grown sound;
    stated = stated_grows k g relabelled grown sound;
    ends = subst (λ n. list_all (λ e. nat_lt e.from n && nat_lt e.to n) g.edges ≡ true) (sym count) sound.ends;
  }

pub adding_sound : (k : Theory) (g : Graph) (x : ℕ) (cs : List Concept) → list_all (fits k) cs ≡ true → IsSound k g → IsSound k (adding g x cs)
adding_sound k g x cs fit sound = elim (cases_vertex (slice_get g.nodes x)) [
  | inl none ↦ subst (IsSound k) (sym (adding-none g x cs none)) sound
  | inr (v, at) ↦ subst (IsSound k) (sym (adding-some g x cs v at)) (relabelled_sound k g x cs v at fit sound)
]

ends_more : (n : ℕ) (es : List Edge) (e : Edge) → list_all (λ e. nat_lt e.from n && nat_lt e.to n) es ≡ true → e.from < n → e.to < n
    → list_all (λ e. nat_lt e.from n && nat_lt e.to n) (es ++ e ∷ []) ≡ true
ends_more n es e h from to =
    list_all-append (λ e. nat_lt e.from n && nat_lt e.to n) es (e ∷ [])
    ∙ and_from (list_all (λ e. nat_lt e.from n && nat_lt e.to n) es) ((nat_lt e.from n && nat_lt e.to n) && true) h
    (and_from (nat_lt e.from n && nat_lt e.to n) true (and_from (nat_lt e.from n) (nat_lt e.to n) (lt-ltb e.from n from) (lt-ltb e.to n to)) refl)

-- an edge is added
pub with_edge_sound : (k : Theory) (g : Graph) (e : Edge) → e.from < length g.nodes → e.to < length g.nodes → IsSound k g → IsSound k (with_edge g e)
with_edge_sound k g e from to sound = record {
  parents = sound.parents;
  parents_in = sound.parents_in;
  some = sound.some;
  first = sound.first;
  named = sound.named;
  rooted = sound.rooted;
  general = sound.general;
  fit = sound.fit;
  asserted = sound.asserted;
  stated = λ j d lt x y at other. neighbour_more k g.edges e _ x y (sound.stated j d lt x y at other);
  ends = ends_more (length g.nodes) g.edges e sound.ends from to;
}

-- a node is added, with an edge to it
module _ (k : Theory) (g : Graph) (x : ℕ) (role : Role) (cs : List Concept) (below : x < length g.nodes) where
  abbrev fresh : Vertex
  fresh = record { parent = Some x; label = with_classes [] (cs ++ k.general) }

  abbrev link : Edge
  link = record { from = x; role = role; to = length g.nodes }

  abbrev larger : Graph
  larger = with_node g fresh link

  larger_count : length larger.nodes ≡ length g.nodes + 1
  larger_count = length-append g.nodes (fresh ∷ [])

  old_label : (y : ℕ) → y < length g.nodes → label_at larger y ≡ label_at g y
  old_label y lt = ap (λ o. option_map_or (λ u. u.label) o []) (get_push_old g.nodes fresh y lt)

  old_parent : (y : ℕ) → y < length g.nodes → parent_of larger y ≡ parent_of g y
  old_parent y lt = ap (λ o. option_and_then (λ u. u.parent) o) (get_push_old g.nodes fresh y lt)

  new_label : label_at larger (length g.nodes) ≡ with_classes [] (cs ++ k.general)
  new_label = ap (λ o. option_map_or (λ u. u.label) o []) (get_push_new g.nodes fresh)

  new_parent : parent_of larger (length g.nodes) ≡ Some x
  new_parent = ap (λ o. option_and_then (λ u. u.parent) o) (get_push_new g.nodes fresh)

  -- a place is that of an old node, the new one's, or past all
  where_is : (y : ℕ) → (y < length g.nodes) ⊎ ((y ≡ length g.nodes) ⊎ (length larger.nodes ≤ y))
  where_is y = elim (cases_lt y (length g.nodes)) [
    | inl old ↦ inl old
    | inr past ↦ elim (cases_eq y (length g.nodes)) [ inl new ↦ inr (inl new) | inr other ↦ inr (inr (omega (arith, larger_count))) ]
  ]

  past_parent : (y p : ℕ) → length larger.nodes ≤ y → parent_of larger y ≡ Some p → ⊥
  past_parent y p past up =
      let none : parent_of larger y ≡ None = ap (λ o. option_and_then (λ u. u.parent) o) (slice_get_past larger.nodes y past) in cc

  past_label : (y : ℕ) (c : Concept) → length larger.nodes ≤ y → has_concept (label_at larger y) c ≡ true → ⊥
  past_label y c past h =
      let none : has_concept (label_at larger y) c ≡ false = ap (λ o. has_concept (option_map_or (λ u. u.label) o []) c) (slice_get_past larger.nodes y past) in
      cc

  larger_grows : Grows k g larger
  larger_grows = record {
    longer = omega (arith, larger_count);
    parents = old_parent;
    labels = λ y c h. ap (λ l. has_concept l c) (old_label y (has_node g y c h)) ∙ h;
    edges = λ r y z h. neighbour_more k g.edges link r y z h;
  }

  larger_sound : list_all (fits k) cs ≡ true → list_all (fits k) k.general ≡ true → IsSound k g → IsSound k larger
  larger_sound fit fit_general sound = record {
    parents = λ y p up. elim (where_is y) [
      | inl old ↦ sound.parents y p (sym (old_parent y old) ∙ up)
      | inr rest ↦ elim rest [
        | inl new ↦ (let same : Some x ≡ Some p = sym new_parent ∙ subst (λ z. parent_of larger z ≡ Some p) new up in
            let is : x ≡ p = cc in subst (λ q. q < y) is (omega arith))
        | inr past ↦ absurd (past_parent y p past up)
      ]
    ];
    parents_in = λ y p up. elim (where_is y) [
      | inl old ↦ omega (arith, larger_count)
      | inr rest ↦ elim rest [ inl new ↦ omega (arith, larger_count) | inr past ↦ absurd (past_parent y p past up) ]
    ];
    some = omega (arith, larger_count);
    first = old_parent 0 sound.some ∙ sound.first;
    named = λ y lt. let l = sound.named y lt in omega (arith, larger_count);
    rooted = λ y lt. old_parent y (sound.named y lt) ∙ sound.rooted y lt;
    general = λ y c lt h. elim (where_is y) [
      | inl old ↦ ap (λ l. has_concept l c) (old_label y old) ∙ sound.general y c old h
      | inr rest ↦ elim rest [
        | inl new ↦ subst (λ z. has_concept (label_at larger z) c ≡ true) (sym new)
            (ap (λ l. has_concept l c) new_label
            ∙ new_classes [] (cs ++ k.general) c
            (list_any-append (λ d. Rattle.logic_terms.specs.Same.same_concept d c) cs k.general ∙ or_right (has_concept cs c) (has_concept k.general c) h))
        | inr past ↦ absurd (omega arith)
      ]
    ];
    fit = λ y c h. elim (where_is y) [
      | inl old ↦ sound.fit y c (sym (ap (λ l. has_concept l c) (old_label y old)) ∙ h)
      | inr rest ↦ elim rest [
        | inl new ↦ elim (only_classes [] (cs ++ k.general) c
            (sym (ap (λ l. has_concept l c) new_label) ∙ subst (λ z. has_concept (label_at larger z) c ≡ true) new h)) [
              | inl none ↦ absurd (nothing c none)
              | inr there ↦ each_has (fits k) (cs ++ k.general) c
                  (list_all-append (fits k) cs k.general ∙ and_from (list_all (fits k) cs) (list_all (fits k) k.general) fit fit_general) there
            ]
        | inr past ↦ absurd (past_label y c past h)
      ]
    ];
    asserted = asserted_grows k g larger larger_grows sound;
    stated = stated_grows k g larger larger_grows sound;
    ends = ends_more (length larger.nodes) g.edges link (ends_longer (length g.nodes) (length larger.nodes) g.edges (omega (arith, larger_count)) sound.ends)
        (omega (arith, larger_count)) (omega (arith, larger_count));
  }
    where
      nothing : (c : Concept) → has_concept [] c ≡ true → ⊥
      nothing c e = cc

-- the parts of a class that fits
members_fit : (k : Theory) (cs : Concepts) → each_normal cs ≡ true → each_names_given k cs ≡ true → list_all (fits k) (members_in cs) ≡ true
members_fit k no_concept n q = refl
members_fit k (also_concept c cs) n q =
    let a = and_parts (is_normal c) (each_normal cs) n in
    let b = and_parts (names_given k c) (each_names_given k cs) q in
    and_from (fits k c) (list_all (fits k) (members_in cs)) (and_from (is_normal c) (names_given k c) a.0 b.0) (members_fit k cs a.1 b.1)

intersection_fits : (k : Theory) (c : Concept) (ms : List Concept) → fits k c ≡ true → intersection_part c ≡ Some ms → list_all (fits k) ms ≡ true
intersection_fits k (IntersectionOf cs) ms h at =
    let two = and_parts (each_normal cs) (each_names_given k cs) h in
    let same : members_in cs ≡ ms = cc in
    ap (list_all (fits k)) (sym same) ∙ members_fit k cs two.0 two.1
intersection_fits k _ ms h at = cc

union_fits : (k : Theory) (c : Concept) (ms : List Concept) → fits k c ≡ true → union_part c ≡ Some ms → list_all (fits k) ms ≡ true
union_fits k (UnionOf cs) ms h at =
    let two = and_parts (each_normal cs) (each_names_given k cs) h in
    let same : members_in cs ≡ ms = cc in
    ap (list_all (fits k)) (sym same) ∙ members_fit k cs two.0 two.1
union_fits k _ ms h at = cc

all_fits : (k : Theory) (c : Concept) (p : Role × Concept) → fits k c ≡ true → all_part c ≡ Some p → fits k p.1 ≡ true
all_fits k (AllValuesFrom role d) p h at =
    let same : ◌≡◌ {A = Role × Concept} (role, d) p = cc in ap (λ q. fits k q.1) (sym same) ∙ h
all_fits k _ p h at = cc

some_fits : (k : Theory) (c : Concept) (p : Role × Concept) → fits k c ≡ true → some_part c ≡ Some p → fits k p.1 ≡ true
some_fits k (SomeValuesFrom role d) p h at =
    let same : ◌≡◌ {A = Role × Concept} (role, d) p = cc in ap (λ q. fits k q.1) (sym same) ∙ h
some_fits k _ p h at = cc

kept_fit : (k : Theory) (e : WordId × Concept) (rest : List (WordId × Concept)) → fits k e.1 ≡ true
    → list_all (fits k) (map (λ (e : WordId × Concept). e.1) rest) ≡ true → (b : Bool)
    → list_all (fits k) (map (λ (e : WordId × Concept). e.1) (if b then e ∷ rest else rest)) ≡ true
kept_fit k e rest here later true = and_from (fits k e.1) (list_all (fits k) (map (λ (e : WordId × Concept). e.1) rest)) here later
kept_fit k e rest here later false = later

-- the classes of entries that pass a test
pub entries_fit : (k : Theory) (test : WordId × Concept → Bool) (es : List (WordId × Concept)) → list_all (λ e. fits k e.1) es ≡ true
    → list_all (fits k) (map (λ (e : WordId × Concept). e.1) (filter test es)) ≡ true
entries_fit k test [] all = refl
entries_fit k test (e ∷ es) all =
    let two = and_parts (fits k e.1) (list_all (λ e. fits k e.1) es) all in
    kept_fit k e (filter test es) two.0 (entries_fit k test es two.1) (test e)

unfoldings_fit : (k : Theory) (word : WordId) → list_all (λ e. fits k e.1) k.unfoldings ≡ true → list_all (fits k) (unfoldings_of k word) ≡ true
unfoldings_fit k word h = entries_fit k (λ e. is_word word e.0) k.unfoldings h

item_fits : (k : Theory) (cs : List Concept) (place : ℕ) → list_all (fits k) cs ≡ true → list_all (fits k) (option_to_list (slice_get cs place)) ≡ true
item_fits k [] place h = refl
item_fits k (c ∷ cs) zero h = and_from (fits k c) true (and_parts (fits k c) (list_all (fits k) cs) h).0 refl
item_fits k (c ∷ cs) (suc place) h = item_fits k cs place (and_parts (fits k c) (list_all (fits k) cs) h).1

open_fits : (k : Theory) (label cs : List Concept) → list_all (fits k) cs ≡ true → list_all (fits k) (open_members label cs) ≡ true
open_fits k label [] h = refl
open_fits k label (c ∷ cs) h =
    let two = and_parts (fits k c) (list_all (fits k) cs) h in
    by_test two.0 (open_fits k label cs two.1) (not (has_concept label (complement c)))
  where
    by_test : fits k c ≡ true → list_all (fits k) (open_members label cs) ≡ true → (b : Bool)
        → list_all (fits k) (if b then c ∷ open_members label cs else open_members label cs) ≡ true
    by_test here later true = and_from (fits k c) (list_all (fits k) (open_members label cs)) here later
    by_test here later false = later

either_fits : (k : Theory) (a b : Option Concept) → list_all (fits k) (option_to_list a) ≡ true → list_all (fits k) (option_to_list b) ≡ true
    → list_all (fits k) (option_to_list (option_or a b)) ≡ true
either_fits k None b p q = q
either_fits k (Some c) b p q = p

-- a class along a role fits where it does
simple_along : (t : Role) (c : Concept) → is_simple (along t c) ≡ is_simple c
simple_along t (ComplementOf c) = refl
simple_along t (AllValuesFrom role c) = refl
simple_along t (HasValue role name) = refl
simple_along t _ = refl

normal_along : (t : Role) (c : Concept) → is_normal (along t c) ≡ is_normal c
normal_along t (ComplementOf c) = simple_along t c
normal_along t (AllValuesFrom role c) = refl
normal_along t (HasValue role name) = refl
normal_along t _ = refl

given_along : (k : Theory) (t : Role) (c : Concept) → names_given k (along t c) ≡ names_given k c
given_along k t (ComplementOf c) = given_along k t c
given_along k t (AllValuesFrom role c) = refl
given_along k t (HasValue role name) = refl
given_along k t _ = refl

carried_fit : (k : Theory) (c : Concept) → fits k c ≡ true → (ts : List Role) → list_all (fits k) (map (λ t. along t c) ts) ≡ true
carried_fit k c h [] = refl
carried_fit k c h (t ∷ ts) =
    and_from (fits k (along t c)) (list_all (fits k) (map (λ s. along s c) ts)) ((λ j. normal_along t c j && given_along k t c j) ∙ h) (carried_fit k c h ts)

-- every step keeps what a branch keeps
module _ (k : Theory) (g : Graph) (sound : IsSound k g) (fit_unfoldings : list_all (λ e. fits k e.1) k.unfoldings ≡ true)
    (fit_general : list_all (fits k) k.general ≡ true) (noded : (name : WordId) (y : ℕ) → node_of k name ≡ Some y → y < length (roots k)) where
  effect_sound : (r : Rule) (x : ℕ) (c : Concept) (y choice : ℕ) → has_concept (label_at g x) c ≡ true → IsSound k (effect k g r x c y choice)
  effect_sound rule.And x c y choice has = go (intersection_part c) refl
    where
      go : (o : Option (List Concept)) → intersection_part c ≡ o → IsSound k (option_map_or (adding g x) o g)
      go None e = sound
      go (Some ms) e = adding_sound k g x ms (intersection_fits k c ms (sound.fit x c has) e) sound
  effect_sound rule.Unfold x c y choice has = go (word_part c)
    where
      go : (o : Option WordId) → IsSound k (option_map_or (λ word. adding g x (unfoldings_of k word)) o g)
      go None = sound
      go (Some word) = adding_sound k g x (unfoldings_of k word) (unfoldings_fit k word fit_unfoldings) sound
  effect_sound rule.All x c y choice has = go (all_part c) refl
    where
      go : (o : Option (Role × Concept)) → all_part c ≡ o → IsSound k (option_map_or (λ p. adding g y (p.1 ∷ [])) o g)
      go None e = sound
      go (Some p) e = adding_sound k g y (p.1 ∷ []) (and_from (fits k p.1) true (all_fits k c p (sound.fit x c has) e) refl) sound
  effect_sound rule.Trans x c y choice has = go (role_of_all c)
    where
      go : (o : Option Role) → IsSound k (option_map_or (λ role. adding g y (carried k g role c x y)) o g)
      go None = sound
      go (Some role) =
          adding_sound k g y (carried k g role c x y) (carried_fit k c (sound.fit x c has) (filter (λ t. is_neighbour k g t x y) (carriers k role))) sound
  effect_sound rule.Value x c y choice has = go (value_part c)
    where
      inner : (role : Role) (name : WordId) (o : Option ℕ) → node_of k name ≡ o
          → IsSound k (option_map_or (λ z. with_edge g (record { from = x; role = role; to = z })) o g)
      inner role name None e = sound
      inner role name (Some z) e = with_edge_sound k g (record { from = x; role = role; to = z }) (has_node g x c has) (sound.named z (noded name z e)) sound

      go : (o : Option (Role × WordId)) → IsSound k
          (option_map_or (λ p. option_map_or (λ z. with_edge g (record { from = x; role = p.0; to = z })) (node_of k p.1) g) o g)
      go None = sound
      go (Some p) = inner p.0 p.1 (node_of k p.1) refl
  effect_sound rule.Unit x c y choice has = go (union_part c) refl
    where
      go : (o : Option (List Concept)) → union_part c ≡ o → IsSound k (option_map_or (λ cs. adding g x (option_to_list (unit_member (label_at g x) cs))) o g)
      go None e = sound
      go (Some ms) e =
          let fit = union_fits k c ms (sound.fit x c has) e in
          adding_sound k g x (option_to_list (unit_member (label_at g x) ms))
          (either_fits k (slice_get (open_members (label_at g x) ms) 0) (slice_get ms 0)
          (item_fits k (open_members (label_at g x) ms) 0 (open_fits k (label_at g x) ms fit)) (item_fits k ms 0 fit)) sound
  effect_sound rule.Or x c y choice has = go (union_part c) refl
    where
      go : (o : Option (List Concept)) → union_part c ≡ o → IsSound k (option_map_or (λ cs. adding g x (option_to_list (slice_get cs choice))) o g)
      go None e = sound
      go (Some ms) e = adding_sound k g x (option_to_list (slice_get ms choice)) (item_fits k ms choice (union_fits k c ms (sound.fit x c has) e)) sound
  effect_sound rule.Some x c y choice has = go (some_part c) refl
    where
      go : (o : Option (Role × Concept)) → some_part c ≡ o
          → IsSound k (option_map_or (λ p. with_node g (record { parent = Some x; label = with_classes [] (p.1 ∷ k.general) })
          (record { from = x; role = p.0; to = length g.nodes })) o g)
      go None e = sound
      go (Some p) e = larger_sound k g x p.0 (p.1 ∷ []) (has_node g x c has) (and_from (fits k p.1) true (some_fits k c p (sound.fit x c has) e) refl)
          fit_general sound

  pub after_sound : (s : Step) (choice : ℕ) → IsSound k (after k g s choice)
  after_sound s choice = go (class_at g s.node s.class) refl
    where
      go : (o : Option Concept) → class_at g s.node s.class ≡ o → IsSound k (option_map_or (λ c. effect k g s.rule s.node c s.other choice) o g)
      go None e = sound
      go (Some c) e = effect_sound s.rule s.node c s.other choice (has_here (label_at g s.node) s.class c e)

-- The interpretation that is made of a branch pictures it.
use Rattle.std.proofs.Common.{◌≡◌, ℕ, zero, suc, ◌+◌, ◌<◌, ◌≤◌, ◌==◌, ◌&&◌, Bool, true, false, List, [], ◌∷◌, length, get_or, Contains, MatchBool, Option, Some, None, slice_get, unwrap_or, refl, sym, ap, ◌∙◌, subst, inl, inr, arith}
use Rattle.std.specs.Prelude.{◌⊎◌, ◌↔◌, nat_lt, if◌then◌else◌, not}
use Rattle.std.specs.List.{list_any, list_all}
use Rattle.std.specs.Option.{option_and_then}
use Rattle.std.proofs.lemmas.Bool.{or_cases, or_left, or_right, and_from, and_parts, eqb-true, eq-eqb, ltb-true, lt-ltb}
use Rattle.std.proofs.lemmas.Option.{slice_get_within, slice_get-get_or, same_Some}
use Rattle.std.proofs.Math.Bool.{not-not}
use Rattle.wiki_base.specs.declared.numbers.WordId.{WordId}
use Rattle.wiki_base.proofs.BoolLaws.{same_tests, not_both}
use Rattle.tableau_rules.proofs.Roots.{node_within}
use Rattle.tableau_rules.proofs.Ancestors.{indirectly-none}
use Rattle.logic_terms.specs.declared.expressions.Role.{Role}
use Rattle.logic_terms.specs.Concept.{Concept, Atomic}
use Rattle.logic_terms.specs.Interpretation.{Interpretation, element_of, elements_of, pairs_of, Relates}
use Rattle.logic_terms.specs.Same.{has_concept, inverse}
use Rattle.logic_terms.specs.Theory.{Theory, is_below, IsLawful}
use Rattle.tableau_rules.specs.declared.branch.Edge.{Edge}
use Rattle.tableau_rules.specs.Graph.{Graph, label_at}
use Rattle.tableau_rules.specs.Neighbours.{roots, node_of, makes_neighbour, is_neighbour}
use Rattle.tableau_rules.specs.Blocking.{is_anonymous, is_indirectly_blocked, has_twin, ancestors, blocks}
use Rattle.branch_model.specs.Elements.{StandsFor, ArePlaced}
use Rattle.branch_model.specs.Extents.{stand_of, links}
use Rattle.branch_model.proofs.Same.{same_has, same_has_back}
use Rattle.branch_model.proofs.Sound.{IsSound}
use Rattle.branch_model.proofs.EntriesLemmas.{items_of, Adds}
use Rattle.branch_model.proofs.Above.{role_above, above_role}
use Rattle.branch_model.proofs.ExtentsLemmas.{Labels, AreLinks}
use Rattle.branch_model.specs.Related.{Reaches, straight, IsLed}
use Rattle.branch_model.proofs.Paths.{IsStep, IsRelated, each_step, turned_way}
use Rattle.branch_model.proofs.Truth.{Pictures}

-- the element that a node stands for
abbrev pub place_of : List (Option ℕ) → ℕ → ℕ
place_of stands x = unwrap_or (stand_of stands x) 0

inverse_twice : (r : Role) → inverse (inverse r) ≡ r
inverse_twice r = λ j. record { id = r.id; inverted = not-not r.inverted j }

-- a role with the word of another is that role or its inverse
same_or_turned : (r role : Role) → role.id ≡ r.id → (r ≡ role) ⊎ (r ≡ inverse role)
same_or_turned r role ids = by r.inverted role.inverted refl refl
  where
    by : (a b : Bool) → r.inverted ≡ a → role.inverted ≡ b → (r ≡ role) ⊎ (r ≡ inverse role)
    by true true p q = inl (λ j. record { id = sym ids j; inverted = (p ∙ sym q) j })
    by true false p q = inr (λ j. record { id = sym ids j; inverted = (p ∙ sym (ap not q)) j })
    by false true p q = inr (λ j. record { id = sym ids j; inverted = (p ∙ sym (ap not q)) j })
    by false false p q = inl (λ j. record { id = sym ids j; inverted = (p ∙ sym q) j })

-- the pair of a role as its word has it
abbrev turned_pair : Bool → ℕ → ℕ → ℕ × ℕ
turned_pair t a b = if t then (b, a) else (a, b)

pair_same : (t : Bool) (a b e f : ℕ) → turned_pair t a b ≡ turned_pair t e f → (a ≡ e) × (b ≡ f)
pair_same true a b e f h = (ap (λ q. q.1) h, ap (λ q. q.0) h)
pair_same false a b e f h = (ap (λ q. q.0) h, ap (λ q. q.1) h)

pair_turned : (t : Bool) (a b e f : ℕ) → turned_pair (not t) a b ≡ turned_pair t e f → (a ≡ f) × (b ≡ e)
pair_turned true a b e f h = (ap (λ q. q.0) h, ap (λ q. q.1) h)
pair_turned false a b e f h = (ap (λ q. q.1) h, ap (λ q. q.0) h)

turn_pair : (t : Bool) (a b : ℕ) → turned_pair (not t) a b ≡ turned_pair t b a
turn_pair true a b = refl
turn_pair false a b = refl

relates_pair : (i : Interpretation) (role : Role) (e f : ℕ) → Relates i role e f → Contains (pairs_of i role.id) (turned_pair role.inverted e f)
relates_pair i role e f h = by role.inverted h
  where
    by : (t : Bool) → MatchBool t (Contains (pairs_of i role.id) (f, e)) (Contains (pairs_of i role.id) (e, f))
        → Contains (pairs_of i role.id) (turned_pair t e f)
    by true p = p
    by false p = p

pair_relates : (i : Interpretation) (role : Role) (e f : ℕ) → Contains (pairs_of i role.id) (turned_pair role.inverted e f) → Relates i role e f
pair_relates i role e f h = by role.inverted h
  where
    by : (t : Bool) → Contains (pairs_of i role.id) (turned_pair t e f)
        → MatchBool t (Contains (pairs_of i role.id) (f, e)) (Contains (pairs_of i role.id) (e, f))
    by true p = p
    by false p = p

no_items : {X : Type 0} (v : WordId) (y : X) → Contains (items_of {X = X} v []) y → ⊥
no_items v y (j, lt, at) = absurd (omega arith)

-- an edge among those of a list makes a neighbour
edge_found : (k : Theory) (role : Role) (x y : ℕ) (es : List Edge) → list_any (makes_neighbour k role x y) es ≡ true
    → (j : ℕ) × (e : Edge) × (slice_get es j ≡ Some e) × (makes_neighbour k role x y e ≡ true)
edge_found k role x y [] h = cc
edge_found k role x y (e ∷ es) h = elim (or_cases (makes_neighbour k role x y e) (list_any (makes_neighbour k role x y) es) h) [
  | inl here ↦ (0, e, refl, here)
  | inr later ↦ (let found = edge_found k role x y es later in (suc found.0, found.1, found.2, found.3))
]

edge_any : (k : Theory) (role : Role) (x y : ℕ) (es : List Edge) (j : ℕ) (e : Edge) → slice_get es j ≡ Some e → makes_neighbour k role x y e ≡ true
    → list_any (makes_neighbour k role x y) es ≡ true
edge_any k role x y [] j e at h = absurd (nothing j at)
  where
    nothing : (j : ℕ) → slice_get {X = Edge} [] j ≡ Some e → ⊥
    nothing j q = cc
edge_any k role x y (f ∷ es) zero e at h =
    or_left (makes_neighbour k role x y f) (list_any (makes_neighbour k role x y) es) (ap (makes_neighbour k role x y) (same_Some _ _ at) ∙ h)
edge_any k role x y (f ∷ es) (suc j) e at h =
    or_right (makes_neighbour k role x y f) (list_any (makes_neighbour k role x y) es) (edge_any k role x y es j e at h)

edge_ends : (n : ℕ) (es : List Edge) (j : ℕ) (e : Edge) → list_all (λ e. nat_lt e.from n && nat_lt e.to n) es ≡ true → slice_get es j ≡ Some e
    → (e.from < n) × (e.to < n)
edge_ends n [] j e h at = absurd (nothing j at)
  where
    nothing : (j : ℕ) → slice_get {X = Edge} [] j ≡ Some e → ⊥
    nothing j q = cc
edge_ends n (f ∷ es) zero e h at =
    let one = and_parts (nat_lt f.from n && nat_lt f.to n) (list_all (λ e. nat_lt e.from n && nat_lt e.to n) es) h in
    let two = and_parts (nat_lt f.from n) (nat_lt f.to n) one.0 in
    subst (λ g. (g.from < n) × (g.to < n)) (same_Some _ _ at) (ltb-true f.from n two.0, ltb-true f.to n two.1)
edge_ends n (f ∷ es) (suc j) e h at = edge_ends n es j e
    (and_parts (nat_lt f.from n && nat_lt f.to n) (list_all (λ e. nat_lt e.from n && nat_lt e.to n) es) h).1 at

module _ (k : Theory) (lawful : IsLawful k) (g : Graph) (sound : IsSound k g) (owners : List ℕ) (stands : List (Option ℕ))
    (placed : ArePlaced k g (length g.nodes) owners stands) where
  -- what a node that is not indirectly blocked stands for
  standing : (x : ℕ) → x < length g.nodes → is_indirectly_blocked k g x ≡ false
      → (e : ℕ) × (z : ℕ) × (stand_of stands x ≡ Some e) × (slice_get owners e ≡ Some z) × StandsFor k g x z
  standing x lt free = let s = placed.shown x lt free in (s.0, s.1, ap (option_and_then (λ s. s)) s.2, s.3, s.4)

  placed_at : (x e : ℕ) → stand_of stands x ≡ Some e → place_of stands x ≡ e
  placed_at x e at = ap (λ o. unwrap_or o 0) at

  -- a node and the one that owns its element have the same classes
  labels_of : (x z : ℕ) → StandsFor k g x z → (c : Concept) → has_concept (label_at g x) c ≡ has_concept (label_at g z) c
  labels_of x z h c = elim h [
    | inl own ↦ ap (λ w. has_concept (label_at g w) c) own.1
    | inr twin ↦ same_tests (has_concept (label_at g x) c) (has_concept (label_at g z) c) (same_has (label_at g x) (label_at g z) c twin.1.same)
        (same_has_back (label_at g x) (label_at g z) c twin.1.same)
  ]

  -- only a node that is not indirectly blocked stands for an element
  shown_free : (x e : ℕ) → x < length g.nodes → stand_of stands x ≡ Some e → is_indirectly_blocked k g x ≡ false
  shown_free x e lt at = by (is_indirectly_blocked k g x) refl
    where
      by : (b : Bool) → is_indirectly_blocked k g x ≡ b → is_indirectly_blocked k g x ≡ false
      by false h = h
      by true h = let none : stand_of stands x ≡ None = ap (option_and_then (λ s. s)) (placed.hidden x lt h) in absurd (gone (sym none ∙ at))
        where
          gone : None ≡ Some e → ⊥
          gone q = cc

  pub stands_within : (x e : ℕ) → stand_of stands x ≡ Some e → e < length owners
  stands_within x e at =
      let lt = in_nodes x e at in
      let s = standing x lt (shown_free x e lt at) in
      subst (λ d. d < length owners) (same_Some _ _ (sym s.2 ∙ at)) (slice_get_within owners s.0 s.1 s.3)
    where
      in_nodes : (x e : ℕ) → stand_of stands x ≡ Some e → x < length g.nodes
      in_nodes x e at = elim (Rattle.std.proofs.lemmas.Bool.cases_lt x (length g.nodes)) [
        | inl lt ↦ lt
        | inr past ↦ (let none : stand_of stands x ≡ None =
            ap (option_and_then (λ s. s)) (Rattle.std.proofs.lemmas.Option.slice_get_past stands x (subst (λ n. n ≤ x) (sym placed.all) past)) in
            absurd (gone (sym none ∙ at)))
      ]
        where
          gone : None ≡ Some e → ⊥
          gone q = cc

  -- a role above that of an edge, in the one direction or the other, makes a neighbour
  forth : (role : Role) (j : ℕ) (edge : Edge) → slice_get g.edges j ≡ Some edge → is_below k edge.role role ≡ true
      → is_neighbour k g role edge.from edge.to ≡ true
  forth role j edge at up =
      edge_any k role edge.from edge.to g.edges j edge at
      (or_left ((edge.from == edge.from) && ((edge.to == edge.to) && is_below k edge.role role))
      ((edge.from == edge.to) && ((edge.to == edge.from) && is_below k (inverse edge.role) role))
      (and_from (edge.from == edge.from) ((edge.to == edge.to) && is_below k edge.role role) (eq-eqb edge.from edge.from refl)
      (and_from (edge.to == edge.to) (is_below k edge.role role) (eq-eqb edge.to edge.to refl) up)))

  back : (role : Role) (j : ℕ) (edge : Edge) → slice_get g.edges j ≡ Some edge → is_below k edge.role (inverse role) ≡ true
      → is_neighbour k g role edge.to edge.from ≡ true
  back role j edge at up =
      let up' : is_below k (inverse edge.role) role ≡ true =
      subst (λ r. is_below k (inverse edge.role) r ≡ true) (inverse_twice role) (lawful.inverses edge.role (inverse role) up) in
      edge_any k role edge.to edge.from g.edges j edge at
      (or_right ((edge.from == edge.to) && ((edge.to == edge.from) && is_below k edge.role role))
      ((edge.from == edge.from) && ((edge.to == edge.to) && is_below k (inverse edge.role) role))
      (and_from (edge.from == edge.from) ((edge.to == edge.to) && is_below k (inverse edge.role) role) (eq-eqb edge.from edge.from refl)
      (and_from (edge.to == edge.to) (is_below k (inverse edge.role) role) (eq-eqb edge.to edge.to refl) up')))

  module _ (i : Interpretation) (size : i.size ≡ length owners)
      (es : List (WordId × List ℕ)) (adds_es : Adds [] es (Labels g 0 owners))
      (rs : List (WordId × List (ℕ × ℕ))) (adds_rs : Adds [] rs (AreLinks k stands g.edges))
      (classes : (v : WordId) (x : ℕ) → Contains (elements_of i v) x ↔ Contains (items_of v es) x)
      (relations : (v : WordId) (p : ℕ × ℕ) → Contains (pairs_of i v) p ↔ (Contains (items_of v rs) p ⊎ IsLed k rs v p))
      (names : (name : WordId) (y : ℕ) → node_of k name ≡ Some y → element_of i name ≡ place_of stands y) where
    -- the pairs of edges are steps
    step_of : (role : Role) (e f : ℕ) → Contains (items_of role.id rs) (turned_pair role.inverted e f) → IsStep k g (place_of stands) role e f
    step_of role e f has = elim (adds_rs.only role.id (turned_pair role.inverted e f) has) [
      | inl none ↦ absurd (no_items role.id (turned_pair role.inverted e f) none)
      | inr (j, edge, at, (a, b, from, to, pair)) ↦
          (let ends = edge_ends (length g.nodes) g.edges j edge sound.ends at in
          let above = role_above k edge.role a b role.id (turned_pair role.inverted e f) pair in
          let free_from = shown_free edge.from a ends.0 from in
          let free_to = shown_free edge.to b ends.1 to in
          elim (same_or_turned above.0 role above.2.0) [
            | inl same ↦ (let is = pair_same role.inverted a b e f (sym (ap (λ (r : Role). turned_pair r.inverted a b) same) ∙ above.2.1) in (
              edge.from,
              edge.to,
              ends.0,
              ends.1,
              free_from,
              free_to,
              placed_at edge.from a from ∙ is.0,
              placed_at edge.to b to ∙ is.1,
              forth role j edge at (subst (λ r. is_below k edge.role r ≡ true) same above.1),
            ))
            | inr turned ↦ (let is = pair_turned role.inverted a b e f (sym (ap (λ (r : Role). turned_pair r.inverted a b) turned) ∙ above.2.1) in (
              edge.to,
              edge.from,
              ends.1,
              ends.0,
              free_to,
              free_from,
              placed_at edge.to b to ∙ is.1,
              placed_at edge.from a from ∙ is.0,
              back role j edge at (subst (λ r. is_below k edge.role r ≡ true) turned above.1),
            ))
          ])
    ]

    -- and back
    linked_from : (role : Role) (x y : ℕ) → is_indirectly_blocked k g x ≡ false → is_indirectly_blocked k g y ≡ false → is_neighbour k g role x y ≡ true
        → Contains (items_of role.id rs) (turned_pair role.inverted (place_of stands x) (place_of stands y))
    linked_from role x y free_x free_y near =
        let found = edge_found k role x y g.edges near in
        let edge = found.1 in
        let ends = edge_ends (length g.nodes) g.edges found.0 edge sound.ends found.2 in
        elim (or_cases ((edge.from == x) && ((edge.to == y) && is_below k edge.role role))
        ((edge.from == y) && ((edge.to == x) && is_below k (inverse edge.role) role)) found.3) [
          | inl go ↦ (let p = and_parts (edge.from == x) ((edge.to == y) && is_below k edge.role role) go in
              let q = and_parts (edge.to == y) (is_below k edge.role role) p.1 in
              let from_is = eqb-true edge.from x p.0 in
              let to_is = eqb-true edge.to y q.0 in
              let sx = standing x (subst (λ n. n < length g.nodes) from_is ends.0) free_x in
              let sy = standing y (subst (λ n. n < length g.nodes) to_is ends.1) free_y in
              shown role x y sx.0 sy.0 sx.2 sy.2 (
                found.0,
                edge,
                found.2,
                (
                  sx.0,
                  sy.0,
                  ap (stand_of stands) from_is ∙ sx.2,
                  ap (stand_of stands) to_is ∙ sy.2,
                  above_role k edge.role role sx.0 sy.0 role.id (turned_pair role.inverted sx.0 sy.0) q.1 (refl, refl),
                ),
              ))
          | inr come ↦ (let p = and_parts (edge.from == y) ((edge.to == x) && is_below k (inverse edge.role) role) come in
              let q = and_parts (edge.to == x) (is_below k (inverse edge.role) role) p.1 in
              let from_is = eqb-true edge.from y p.0 in
              let to_is = eqb-true edge.to x q.0 in
              let sx = standing x (subst (λ n. n < length g.nodes) to_is ends.1) free_x in
              let sy = standing y (subst (λ n. n < length g.nodes) from_is ends.0) free_y in
              let up : is_below k edge.role (inverse role) ≡ true =
              subst (λ r. is_below k r (inverse role) ≡ true) (inverse_twice edge.role) (lawful.inverses (inverse edge.role) role q.1) in
              shown role x y sx.0 sy.0 sx.2 sy.2 (
                found.0,
                edge,
                found.2,
                (
                  sy.0,
                  sx.0,
                  ap (stand_of stands) from_is ∙ sy.2,
                  ap (stand_of stands) to_is ∙ sx.2,
                  above_role k edge.role (inverse role) sy.0 sx.0 role.id (turned_pair role.inverted sx.0 sy.0) up (refl, turn_pair role.inverted sy.0 sx.0),
                ),
              ))
        ]
      where
        shown : (role : Role) (x y a b : ℕ) → stand_of stands x ≡ Some a → stand_of stands y ≡ Some b
            → AreLinks k stands g.edges role.id (turned_pair role.inverted a b)
            → Contains (items_of role.id rs) (turned_pair role.inverted (place_of stands x) (place_of stands y))
        shown role x y a b at_x at_y links =
            subst (λ e. Contains (items_of role.id rs) (turned_pair role.inverted e (place_of stands y))) (sym (placed_at x a at_x))
            (subst (λ f. Contains (items_of role.id rs) (turned_pair role.inverted a f)) (sym (placed_at y b at_y))
            (adds_rs.added role.id (turned_pair role.inverted a b) links))

    step_from : (role : Role) (e f : ℕ) → IsStep k g (place_of stands) role e f → Contains (items_of role.id rs) (turned_pair role.inverted e f)
    step_from role e f (x, y, ltx, lty, free_x, free_y, at_x, at_y, near) =
        subst (λ d. Contains (items_of role.id rs) (turned_pair role.inverted d f)) at_x
        (subst (λ d. Contains (items_of role.id rs) (turned_pair role.inverted (place_of stands x) d)) at_y (linked_from role x y free_x free_y near))

    related_to : (role : Role) (e f : ℕ) → Relates i role e f → IsRelated k g (place_of stands) role e f
    related_to role e f related = elim ((relations role.id (turned_pair role.inverted e f)).0 (relates_pair i role e f related)) [
      | inl edge ↦ inl (step_of role e f edge)
      | inr (word, r, a, b, transitive, below, (n, way), ids, pair) ↦ elim (same_or_turned r role ids) [
        | inl same ↦ (let is = pair_same role.inverted a b e f (sym (ap (λ (s : Role). turned_pair s.inverted a b) same) ∙ pair) in inr (
          straight word,
          transitive,
          subst (λ s. is_below k (straight word) s ≡ true) same below,
          subst (λ d. Reaches (IsStep k g (place_of stands) (straight word)) d f) is.0
              (subst (Reaches (IsStep k g (place_of stands) (straight word)) a) is.1
              (n, each_step (λ c d. Contains (items_of word rs) (c, d)) (IsStep k g (place_of stands) (straight word)) (step_of (straight word)) n a b way)),
        ))
        | inr turned ↦ (let is = pair_turned role.inverted a b e f (sym (ap (λ (s : Role). turned_pair s.inverted a b) turned) ∙ pair) in inr (
          inverse (straight word),
          transitive,
          subst (λ s. is_below k (inverse (straight word)) s ≡ true) (ap inverse turned ∙ inverse_twice role) (lawful.inverses (straight word) r below),
          subst (λ d. Reaches (IsStep k g (place_of stands) (inverse (straight word))) d f) is.1
              (subst (Reaches (IsStep k g (place_of stands) (inverse (straight word))) b) is.0
              (turned_way (λ c d. Contains (items_of word rs) (c, d)) (IsStep k g (place_of stands) (inverse (straight word)))
              (λ c d has. step_of (inverse (straight word)) d c has) n a b way)),
        ))
      ]
    ]

    related_from : (role : Role) (e f : ℕ) → IsRelated k g (place_of stands) role e f → Relates i role e f
    related_from role e f (inl step) =
        pair_relates i role e f ((relations role.id (turned_pair role.inverted e f)).1 (inl (step_from role e f step)))
    related_from role e f (inr (t, transitive, below, (n, way))) =
        pair_relates i role e f ((relations role.id (turned_pair role.inverted e f)).1 (inr (by t.inverted refl)))
      where
        by : (inverted : Bool) → t.inverted ≡ inverted → IsLed k rs role.id (turned_pair role.inverted e f)
        by false is =
            let same : t ≡ straight t.id = λ j. record { id = t.id; inverted = is j } in (
              t.id,
              role,
              e,
              f,
              transitive,
              subst (λ s. is_below k s role ≡ true) same below,
              (
                n,
                each_step (IsStep k g (place_of stands) t) (λ c d. Contains (items_of t.id rs) (c, d))
                    (λ c d step. subst (λ v. Contains (items_of t.id rs) (turned_pair v c d)) is (step_from t c d step)) n e f way,
              ),
              refl,
              refl,
            )
        by true is =
            let same : inverse t ≡ straight t.id = λ j. record { id = t.id; inverted = not (is j) } in (
              t.id,
              inverse role,
              f,
              e,
              transitive,
              subst (λ s. is_below k s (inverse role) ≡ true) same (lawful.inverses t role below),
              turned_way (IsStep k g (place_of stands) t) (λ c d. Contains (items_of t.id rs) (c, d))
                  (λ c d step. subst (λ v. Contains (items_of t.id rs) (turned_pair v c d)) is (step_from t c d step)) n e f way,
              refl,
              turn_pair role.inverted f e,
            )

    pub pictures : Pictures k g i (place_of stands)
    pictures = record {
      within = λ x lt free.
          let s = standing x lt free in
          subst (λ n. place_of stands x < n) (sym size) (subst (λ e. e < length owners) (sym (placed_at x s.0 s.2)) (slice_get_within owners s.0 s.1 s.3));
      owner = λ x lt free.
          let s = standing x lt free in
          let own = placed.owned s.0 s.1 s.3 in
          (s.1, own.0, own.1, placed_at s.1 s.0 (ap (option_and_then (λ s. s)) own.2) ∙ sym (placed_at x s.0 s.2), labels_of x s.1 s.4);
      same = λ x y lt lt' free free' places c.
          let s = standing x lt free in
          let t = standing y lt' free' in
          let elements : s.0 ≡ t.0 = sym (placed_at x s.0 s.2) ∙ places ∙ placed_at y t.0 t.2 in
          let own : s.1 ≡ t.1 = same_Some _ _ (sym s.3 ∙ ap (slice_get owners) elements ∙ t.3) in
          labels_of x s.1 s.4 c ∙ ap (λ z. has_concept (label_at g z) c) own ∙ sym (labels_of y t.1 t.4 c);
      alone = λ x y name lt free node places.
          let low = node_within k name y node in
          let lt_y = sound.named y low in
          let not_anonymous : is_anonymous k y ≡ false = ap not (lt-ltb y (length (roots k)) low) in
          let free_y : is_indirectly_blocked k g y ≡ false = indirectly-none k g y (sound.rooted y low) in
          let s = standing x lt free in
          let t = standing y lt_y free_y in
          let elements : s.0 ≡ t.0 = sym (placed_at x s.0 s.2) ∙ places ∙ placed_at y t.0 t.2 in
          let own : s.1 ≡ t.1 = same_Some _ _ (sym s.3 ∙ ap (slice_get owners) elements ∙ t.3) in
          let is_y : t.1 ≡ y = own_root y t.1 not_anonymous t.4 in
          by_kind x y s.1 (own ∙ is_y) not_anonymous s.4;
      classes = λ word x lt free inside.
          let s = standing x lt free in
          elim (adds_es.only word (place_of stands x) ((classes word (place_of stands x)).0 inside)) [
            | inl none ↦ absurd (no_items word (place_of stands x) none)
            | inr (j, z, at, sum, has) ↦ (let is : j ≡ s.0 = plus_zero j (place_of stands x) sum ∙ placed_at x s.0 s.2 in
                let own : z ≡ s.1 = same_Some _ _ (sym at ∙ ap (slice_get owners) is ∙ s.3) in
                labels_of x s.1 s.4 (Atomic word) ∙ ap (λ w. has_concept (label_at g w) (Atomic word)) (sym own) ∙ has)
          ];
      related = related_to;
      relates = related_from;
      labelled = λ word x lt free has.
          let s = standing x lt free in
          (classes word (place_of stands x)).1
          (adds_es.added word (place_of stands x)
          (s.0, s.1, s.3, zero_plus s.0 (place_of stands x) (placed_at x s.0 s.2), sym (labels_of x s.1 s.4 (Atomic word)) ∙ has));
      names = names;
      reached = λ e below.
          let lt : e < length owners = subst (λ n. e < n) size below in
          let at = slice_get-get_or owners e 0 lt in
          let own = placed.owned e (get_or owners e 0) at in
          (get_or owners e 0, own.0, own.1, placed_at (get_or owners e 0) e (ap (option_and_then (λ s. s)) own.2));
    }
      where
        plus_zero : (j p : ℕ) → 0 + j ≡ p → j ≡ p
        plus_zero j p h = omega arith

        zero_plus : (e p : ℕ) → p ≡ e → 0 + e ≡ p
        zero_plus e p h = omega arith

        -- a named node owns its element
        own_root : (y z : ℕ) → is_anonymous k y ≡ false → StandsFor k g y z → z ≡ y
        own_root y z named h = elim h [
          | inl own ↦ sym own.1
          | inr twin ↦ absurd (not_both (and_parts (is_anonymous k y) (has_twin k g y (ancestors g y) && not (blocks k g (ancestors g y))) twin.0).0 named)
        ]

        by_kind : (x y z : ℕ) → z ≡ y → is_anonymous k y ≡ false → StandsFor k g x z → x ≡ y
        by_kind x y z is named h = elim h [
          | inl own ↦ own.1 ∙ is
          | inr twin ↦ absurd (not_both (subst (λ w. is_anonymous k w ≡ true) is twin.1.anonymous) named)
        ]

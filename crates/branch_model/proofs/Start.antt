-- The first branch of lawful knowledge, and the nodes of names.
use Rattle.std.proofs.Common.{◌≡◌, ℕ, zero, suc, ◌<◌, ◌==◌, ◌&&◌, ◌||◌, Bool, true, false, List, [], ◌∷◌, ◌++◌, map, length, get_or, Contains, Option, Some, None, slice_get, refl, sym, ap, ◌∙◌, inl, inr, arith}
use Rattle.std.specs.Prelude.{◌⊎◌, filter, filter_map, nat_lt, if◌then◌else◌}
use Rattle.std.specs.List.{list_any, list_all}
use Rattle.std.specs.Map.{lookup}
use Rattle.std.specs.Option.{option_map, option_map_or, option_and_then}
use Rattle.std.proofs.lemmas.Bool.{cases_Bool, and_parts, and_from, or_left, or_right, cond-true, cond-false, eqb-true, eq-eqb, ltb-true, lt-ltb}
use Rattle.std.proofs.lemmas.List.Folds.{list_any-append, list_all-append}
use Rattle.std.proofs.lemmas.List.Elements.{All-contains}
use Rattle.wiki_base.specs.declared.numbers.WordId.{WordId}
use Rattle.tableau_rules.proofs.Roots.{place_get, node_within}
use Rattle.tableau_rules.proofs.Labels.{each_has, has_node}
use Rattle.logic_terms.proofs.SameLemmas.{word_equal, same_word, same_role-self, same_concept-self}
use Rattle.logic_terms.specs.declared.expressions.Role.{Role}
use Rattle.logic_terms.specs.Concept.{Concept}
use Rattle.logic_terms.specs.Interpretation.{is_word, words_above, words_rise}
use Rattle.logic_terms.specs.Same.{same_role, same_concept, has_concept, inverse}
use Rattle.logic_terms.specs.Theory.{Theory, representative, is_below, is_given, IsLawful}
use Rattle.tableau_rules.specs.declared.branch.Edge.{Edge}
use Rattle.tableau_rules.specs.Graph.{Vertex, label_at, parent_of}
use Rattle.tableau_rules.specs.Neighbours.{roots, roots_in, place_in, node_of, makes_neighbour}
use Rattle.tableau_rules.specs.Clashes.{passes}
use Rattle.tableau_rules.specs.Rules.{with_classes}
use Rattle.tableau_rules.specs.Branches.{asserted, first_node, first_nodes, first_edge, start}
use Rattle.branch_model.proofs.Labels.{new_classes, only_classes}
use Rattle.branch_model.proofs.Sound.{IsSound, fits, entries_fit, cases_vertex}

pub place_found : (ws : List WordId) (word : WordId) → list_any (is_word word) ws ≡ true → (y : ℕ) × (place_in ws word ≡ Some y)
place_found [] word h = cc
place_found (w ∷ ws) word h = elim (cases_Bool (is_word word w)) [
  | inl here ↦ (0, cond-true (is_word word w) (Some 0) (option_map suc (place_in ws word)) here)
  | inr past ↦ (let later = place_found ws word (sym (ap (λ b. b || list_any (is_word word) ws) past) ∙ h) in
      (suc later.0, cond-false (is_word word w) (Some 0) (option_map suc (place_in ws word)) past ∙ ap (option_map suc) later.1))
]

-- the root at a name's node is its representative
pub root_of : (k : Theory) (name : WordId) (y : ℕ) → node_of k name ≡ Some y
    → (r : WordId) × (representative k name ≡ Some r) × (slice_get (roots k) y ≡ Some r)
root_of k name y h = go (representative k name) refl h
  where
    go : (o : Option WordId) → representative k name ≡ o → option_and_then (place_in (roots k)) o ≡ Some y
        → (r : WordId) × (representative k name ≡ Some r) × (slice_get (roots k) y ≡ Some r)
    go None rep e = cc
    go (Some r) rep e = (r, rep, place_get (roots k) r y e)

-- the look-up of a word among entries
found_entry : {X : Type 0} (es : List (WordId × X)) (name : WordId) (r : X) → lookup (is_word name) es ≡ Some r → Contains es (name, r)
found_entry [] name r h = cc
found_entry (e ∷ es) name r h = elim (cases_Bool (is_word name e.0)) [
  | inl here ↦ (let same : Some e.1 ≡ Some r = sym (cond-true (is_word name e.0) (Some e.1) (lookup (is_word name) es) here) ∙ h in
      let is : e.1 ≡ r = cc in (0, omega arith, λ j. (sym (word_equal name e.0 here) j, is j)))
  | inr past ↦ (let later = found_entry es name r (sym (cond-false (is_word name e.0) (Some e.1) (lookup (is_word name) es) past) ∙ h) in
      Rattle.std.proofs.lemmas.List.Elements.Contains-append_right (e ∷ []) es (name, r) later)
]

lookup_there : {X : Type 0} (es : List (WordId × X)) (name : WordId) → list_any (λ e. is_word name e.0) es ≡ true
    → (r : X) × (lookup (is_word name) es ≡ Some r)
lookup_there [] name h = cc
lookup_there (e ∷ es) name h = elim (cases_Bool (is_word name e.0)) [
  | inl here ↦ (e.1, cond-true (is_word name e.0) (Some e.1) (lookup (is_word name) es) here)
  | inr past ↦ (let later = lookup_there es name (sym (ap (λ b. b || list_any (λ e. is_word name e.0) es) past) ∙ h) in
      (later.0, cond-false (is_word name e.0) (Some e.1) (lookup (is_word name) es) past ∙ later.1))
]

-- where words rise, an entry is what its word finds
above_all : {X : Type 0} (w : WordId) (es : List (WordId × X)) → words_above w es ≡ true → (j : ℕ) (d : WordId × X) → j < length es → w.0 < (get_or es j d).0.0
above_all w [] up j d lt = absurd (omega arith)
above_all w (e ∷ es) up zero d lt = ltb-true w.0 e.0.0 (and_parts (nat_lt w.0 e.0.0) (words_above e.0 es) up).0
above_all w (e ∷ es) up (suc j) d lt =
    let two = and_parts (nat_lt w.0 e.0.0) (words_above e.0 es) up in
    let a = ltb-true w.0 e.0.0 two.0 in
    let b = above_all e.0 es two.1 j d (omega arith) in
    omega arith

rise_tail : {X : Type 0} (e : WordId × X) (es : List (WordId × X)) → words_rise (e ∷ es) ≡ true → words_rise es ≡ true
rise_tail e [] up = refl
rise_tail e (f ∷ es) up = (and_parts (nat_lt e.0.0 f.0.0) (words_above f.0 es) up).1

pub own_entry : {X : Type 0} (es : List (WordId × X)) → words_rise es ≡ true → (j : ℕ) (d : WordId × X) → j < length es
    → lookup (is_word (get_or es j d).0) es ≡ Some (get_or es j d).1
own_entry [] up j d lt = absurd (omega arith)
own_entry (e ∷ es) up zero d lt = cond-true (is_word e.0 e.0) (Some e.1) (lookup (is_word e.0) es) (same_word e.0)
own_entry (e ∷ es) up (suc j) d lt =
    cond-false (is_word (get_or es j d).0 e.0) (Some e.1) (lookup (is_word (get_or es j d).0) es) (differ (is_word (get_or es j d).0 e.0) refl)
    ∙ own_entry es (rise_tail e es up) j d (omega arith)
  where
    differ : (b : Bool) → is_word (get_or es j d).0 e.0 ≡ b → is_word (get_or es j d).0 e.0 ≡ false
    differ false h = h
    differ true h =
        let same : (get_or es j d).0.0 ≡ e.0.0 = eqb-true (get_or es j d).0.0 e.0.0 h in
        let up' = above_all e.0 es up j d (omega arith) in
        absurd (omega arith)

-- a name that represents itself is a root
own_root : (es : List (WordId × WordId)) (r : WordId) → Contains es (r, r) → list_any (is_word r) (roots_in es) ≡ true
own_root [] r (j, lt, at) = absurd (omega arith)
own_root (e ∷ es) r (j, lt, at) = by_place j lt at (own_root es r)
  where
    kept : (b : Bool) → list_any (is_word r) (roots_in es) ≡ true
        → list_any (is_word r) (map (λ (f : WordId × WordId). f.0) (if b then e ∷ filter (λ f. is_word f.0 f.1) es else filter (λ f. is_word f.0 f.1) es))
        ≡ true
    kept true h = or_right (is_word r e.0) (list_any (is_word r) (roots_in es)) h
    kept false h = h

    here : e ≡ (r, r) → list_any (is_word r) (roots_in (e ∷ es)) ≡ true
    here same =
        ap (λ b. list_any (is_word r) (map (λ (f : WordId × WordId). f.0)
        (if b then e ∷ filter (λ f. is_word f.0 f.1) es else filter (λ f. is_word f.0 f.1) es)))
        (ap (λ (f : WordId × WordId). is_word f.0 f.1) same ∙ same_word r)
        ∙ or_left (is_word r e.0) (list_any (is_word r) (roots_in es)) (ap (λ (f : WordId × WordId). is_word r f.0) same ∙ same_word r)

    by_place : (j : ℕ) → j < length (e ∷ es) → get_or (e ∷ es) j (r, r) ≡ (r, r) → (Contains es (r, r) → list_any (is_word r) (roots_in es) ≡ true)
        → list_any (is_word r) (roots_in (e ∷ es)) ≡ true
    by_place zero lt at later = here at
    by_place (suc i) lt at later = kept (is_word e.0 e.1) (later (i, omega arith, at))

module _ (k : Theory) (lawful : IsLawful k) where
  -- each given name has a node, that of its representative
  pub given_node : (name : WordId) → is_given k name ≡ true → (y : ℕ) × (node_of k name ≡ Some y)
  given_node name h =
      let found = lookup_there k.names name h in
      let entry = found_entry k.names name found.0 found.1 in
      let own : representative k found.0 ≡ Some found.0 =
      All-contains (λ e. representative k e.1 ≡ Some e.1) k.names (name, found.0) lawful.representatives entry in
      let root = own_root k.names found.0 (found_entry k.names found.0 found.0 own) in
      let place = place_found (roots k) found.0 root in
      (place.0, ap (option_and_then (place_in (roots k))) found.1 ∙ place.1)

  -- a name and its representative have one node
  pub same_node : (j : ℕ) (d : WordId × WordId) → j < length k.names
      → (y : ℕ) × (node_of k (get_or k.names j d).0 ≡ Some y) × (node_of k (get_or k.names j d).1 ≡ Some y)
  same_node j d lt =
      let rep : representative k (get_or k.names j d).0 ≡ Some (get_or k.names j d).1 = own_entry k.names lawful.rising j d lt in
      let own : representative k (get_or k.names j d).1 ≡ Some (get_or k.names j d).1 = lawful.representatives j d lt in
      let root = own_root k.names (get_or k.names j d).1 (found_entry k.names (get_or k.names j d).1 (get_or k.names j d).1 own) in
      let place = place_found (roots k) (get_or k.names j d).1 root in
      (place.0, ap (option_and_then (place_in (roots k))) rep ∙ place.1, ap (option_and_then (place_in (roots k))) own ∙ place.1)

-- the first nodes: none has a parent, and each root has one
no_parent : (k : Theory) (rs : List WordId) (x : ℕ) (v : Vertex) → slice_get (map (λ r. first_node k (asserted k r)) rs) x ≡ Some v → v.parent ≡ None
no_parent k [] x v h = cc
no_parent k (r ∷ rs) zero v h = let same : first_node k (asserted k r) ≡ v = cc in sym (ap (λ u. u.parent) same)
no_parent k (r ∷ rs) (suc x) v h = no_parent k rs x v h

one_node : (k : Theory) (x : ℕ) (v : Vertex) → slice_get (first_node k [] ∷ []) x ≡ Some v → v ≡ first_node k []
one_node k zero v h = let same : first_node k [] ≡ v = cc in sym same
one_node k (suc x) v h = absurd (nothing x h)
  where
    nothing : (x : ℕ) → slice_get {X = Vertex} [] x ≡ Some v → ⊥
    nothing x e = cc

node_at : (k : Theory) (rs : List WordId) (x : ℕ) (v : Vertex) → slice_get (map (λ r. first_node k (asserted k r)) rs) x ≡ Some v
    → (r : WordId) × (v ≡ first_node k (asserted k r))
node_at k [] x v h = cc
node_at k (r ∷ rs) zero v h = let same : first_node k (asserted k r) ≡ v = cc in (r, sym same)
node_at k (r ∷ rs) (suc x) v h = node_at k rs x v h

-- each first node is one of these classes
first_at : (k : Theory) (rs : List WordId) (x : ℕ) (v : Vertex) → slice_get (first_nodes k rs) x ≡ Some v
    → (cs : List Concept) × (v ≡ first_node k cs) × ((cs ≡ []) ⊎ ((r : WordId) × (cs ≡ asserted k r)))
first_at k [] x v h = ([], one_node k x v h, inl refl)
first_at k (r ∷ rs) x v h = let found = node_at k (r ∷ rs) x v h in (asserted k found.0, found.1, inr (found.0, refl))

root_node : (k : Theory) (rs : List WordId) (y : ℕ) (r : WordId) → slice_get rs y ≡ Some r → slice_get (first_nodes k rs) y ≡ Some (first_node k (asserted k r))
root_node k [] y r h = cc
root_node k (s ∷ rs) y r h = go (s ∷ rs) y h
  where
    go : (rs : List WordId) (y : ℕ) → slice_get rs y ≡ Some r → slice_get (map (λ r. first_node k (asserted k r)) rs) y ≡ Some (first_node k (asserted k r))
    go [] y h = cc
    go (s ∷ rs) zero h = let same : s ≡ r = cc in ap (λ q. Some (first_node k (asserted k q))) same
    go (s ∷ rs) (suc y) h = go rs y h

start_parent : (k : Theory) (x : ℕ) → parent_of (start k) x ≡ None
start_parent k x = elim (cases_vertex (slice_get (start k).nodes x)) [
  | inl none ↦ ap (option_and_then (λ v. v.parent)) none
  | inr (v, at) ↦ ap (option_and_then (λ v. v.parent)) at ∙ ap (λ u. u.parent) (first_at k (roots k) x v at).1
]

some_first : (k : Theory) (rs : List WordId) → 0 < length (first_nodes k rs)
some_first k [] = omega arith
some_first k (r ∷ rs) = omega arith

roots_first : (k : Theory) (rs : List WordId) (x : ℕ) → x < length rs → x < length (first_nodes k rs)
roots_first k [] x lt = absurd (omega arith)
roots_first k (r ∷ rs) x lt = let e = Rattle.std.proofs.lemmas.List.length-map (r ∷ rs) (λ r. first_node k (asserted k r)) in omega arith

start_label : (k : Theory) (x : ℕ) → x < length (start k).nodes
    → (cs : List Concept) × (label_at (start k) x ≡ with_classes [] (cs ++ k.general)) × ((cs ≡ []) ⊎ ((r : WordId) × (cs ≡ asserted k r)))
start_label k x lt = elim (cases_vertex (slice_get (start k).nodes x)) [
  | inl none ↦ absurd (missing none)
  | inr (v, at) ↦ (let found = first_at k (roots k) x v at in (found.0, ap (λ o. option_map_or (λ v. v.label) o []) at ∙ ap (λ u. u.label) found.1, found.2))
]
  where
    missing : slice_get (start k).nodes x ≡ None → ⊥
    missing none = let some : slice_get (start k).nodes x ≡ Some (get_or (start k).nodes x (first_node k [])) =
        Rattle.std.proofs.lemmas.Option.slice_get-get_or (start k).nodes x (first_node k []) lt in cc

has_append_right : (cs ds : List Concept) (c : Concept) → has_concept ds c ≡ true → has_concept (cs ++ ds) c ≡ true
has_append_right cs ds c h = list_any-append (λ d. same_concept d c) cs ds ∙ or_right (has_concept cs c) (has_concept ds c) h

has_append_left : (cs ds : List Concept) (c : Concept) → has_concept cs c ≡ true → has_concept (cs ++ ds) c ≡ true
has_append_left cs ds c h = list_any-append (λ d. same_concept d c) cs ds ∙ or_left (has_concept cs c) (has_concept ds c) h

-- an entry that passes a test is among those that do
pub entry_has : (test : WordId × Concept → Bool) (es : List (WordId × Concept)) (j : ℕ) (d : WordId × Concept) → j < length es → test (get_or es j d) ≡ true
    → has_concept (map (λ (e : WordId × Concept). e.1) (filter test es)) (get_or es j d).1 ≡ true
entry_has test [] j d lt h = absurd (omega arith)
entry_has test (e ∷ es) zero d lt h =
    ap (λ b. has_concept (map (λ (e : WordId × Concept). e.1) (if b then e ∷ filter test es else filter test es)) e.1) h
    ∙ or_left (same_concept e.1 e.1) (has_concept (map (λ (e : WordId × Concept). e.1) (filter test es)) e.1) (same_concept-self e.1)
entry_has test (e ∷ es) (suc j) d lt h = kept (test e) (entry_has test es j d (omega arith) h)
  where
    kept : (b : Bool) → has_concept (map (λ (e : WordId × Concept). e.1) (filter test es)) (get_or es j d).1 ≡ true
        → has_concept (map (λ (e : WordId × Concept). e.1) (if b then e ∷ filter test es else filter test es)) (get_or es j d).1 ≡ true
    kept true later = or_right (same_concept e.1 (get_or es j d).1) (has_concept (map (λ (e : WordId × Concept). e.1) (filter test es)) (get_or es j d).1) later
    kept false later = later

-- the edges of property assertions
made_edge : (k : Theory) (es : List (Role × WordId × WordId)) (j : ℕ) (d : Role × WordId × WordId) (x y : ℕ) → j < length es
    → node_of k (get_or es j d).1 ≡ Some x → node_of k (get_or es j d).2 ≡ Some y
    → list_any (makes_neighbour k (get_or es j d).0 x y) (filter_map (first_edge k) es) ≡ true
made_edge k [] j d x y lt from to = absurd (omega arith)
made_edge k (e ∷ es) zero d x y lt from to =
    ap (λ o. list_any (makes_neighbour k e.0 x y) (Rattle.std.specs.List.cons_option o (filter_map (first_edge k) es)))
    (ap (λ o. option_and_then (λ x. option_map (λ y. record { from = x; role = e.0; to = y }) (node_of k e.2)) o) from
    ∙ ap (option_map (λ y. record { from = x; role = e.0; to = y })) to)
    ∙ or_left (makes_neighbour k e.0 x y (record { from = x; role = e.0; to = y })) (list_any (makes_neighbour k e.0 x y) (filter_map (first_edge k) es))
    (or_left ((x == x) && ((y == y) && is_below k e.0 e.0)) ((x == y) && ((y == x) && is_below k (inverse e.0) e.0))
    (and_from (x == x) ((y == y) && is_below k e.0 e.0) (eq-eqb x x refl) (and_from (y == y) (is_below k e.0 e.0) (eq-eqb y y refl)
    (or_left (same_role e.0 e.0) (list_any (λ p. same_role p.0 e.0 && same_role p.1 e.0) k.hierarchy) (same_role-self e.0)))))
made_edge k (e ∷ es) (suc j) d x y lt from to = kept (first_edge k e) (made_edge k es j d x y (omega arith) from to)
  where
    kept : (o : Option Edge) → list_any (makes_neighbour k (get_or es j d).0 x y) (filter_map (first_edge k) es) ≡ true
        → list_any (makes_neighbour k (get_or es j d).0 x y) (Rattle.std.specs.List.cons_option o (filter_map (first_edge k) es)) ≡ true
    kept None later = later
    kept (Some f) later = or_right (makes_neighbour k (get_or es j d).0 x y f)
        (list_any (makes_neighbour k (get_or es j d).0 x y) (filter_map (first_edge k) es)) later

ends_of : (k : Theory) (n : ℕ) → ((name : WordId) (y : ℕ) → node_of k name ≡ Some y → y < n) → (es : List (Role × WordId × WordId))
    → list_all (λ e. nat_lt e.from n && nat_lt e.to n) (filter_map (first_edge k) es) ≡ true
ends_of k n within [] = refl
ends_of k n within (e ∷ es) = by_ends (node_of k e.1) (node_of k e.2) refl refl (ends_of k n within es)
  where
    by_ends : (a b : Option ℕ) → node_of k e.1 ≡ a → node_of k e.2 ≡ b → list_all (λ e. nat_lt e.from n && nat_lt e.to n) (filter_map (first_edge k) es) ≡ true
        → list_all (λ e. nat_lt e.from n && nat_lt e.to n)
        (Rattle.std.specs.List.cons_option (option_and_then (λ x. option_map (λ y. record { from = x; role = e.0; to = y }) b) a)
        (filter_map (first_edge k) es)) ≡ true
    by_ends None b p q later = later
    by_ends (Some x) None p q later = later
    by_ends (Some x) (Some y) p q later =
        and_from (nat_lt x n && nat_lt y n) (list_all (λ e. nat_lt e.from n && nat_lt e.to n) (filter_map (first_edge k) es))
        (and_from (nat_lt x n) (nat_lt y n) (lt-ltb x n (within e.1 x p)) (lt-ltb y n (within e.2 y q))) later

pub start_sound : (k : Theory) → list_all (λ e. fits k e.1) k.assertions ≡ true → list_all (fits k) k.general ≡ true → IsSound k (start k)
start_sound k fit_assertions fit_general = record {
  parents = λ x p up. absurd (none x p up);
  parents_in = λ x p up. absurd (none x p up);
  some = some_first k (roots k);
  first = start_parent k 0;
  named = roots_first k (roots k);
  rooted = λ x lt. start_parent k x;
  general = λ x c lt h.
      let at = start_label k x lt in
      ap (λ l. has_concept l c) at.1 ∙ new_classes [] (at.0 ++ k.general) c (has_append_right at.0 k.general c h);
  fit = λ x c h.
      let lt = has_node (start k) x c h in
      let at = start_label k x lt in
      elim (only_classes [] (at.0 ++ k.general) c (sym (ap (λ l. has_concept l c) at.1) ∙ h)) [
        | inl nothing ↦ absurd (empty c nothing)
        | inr there ↦ each_has (fits k) (at.0 ++ k.general) c
            (list_all-append (fits k) at.0 k.general ∙ and_from (list_all (fits k) at.0) (list_all (fits k) k.general) (by_kind at.0 at.2) fit_general) there
      ];
  asserted = λ j d lt y at.
      let found = root_of k (get_or k.assertions j d).0 y at in
      let node = root_node k (roots k) y found.0 found.2 in
      let test : passes (representative k (get_or k.assertions j d).0) (is_word found.0) ≡ true =
      ap (λ o. passes o (is_word found.0)) found.1 ∙ same_word found.0 in
      ap (λ o. has_concept (option_map_or (λ v. v.label) o []) (get_or k.assertions j d).1) node
      ∙ new_classes [] (asserted k found.0 ++ k.general) (get_or k.assertions j d).1
      (has_append_left (asserted k found.0) k.general (get_or k.assertions j d).1
      (entry_has (λ e. passes (representative k e.0) (is_word found.0)) k.assertions j d lt test));
  stated = λ j d lt x y from to. made_edge k k.edges j d x y lt from to;
  ends = ends_of k (length (start k).nodes) (λ name y at. roots_first k (roots k) y (node_within k name y at)) k.edges;
}
  where
    none : (x p : ℕ) → parent_of (start k) x ≡ Some p → ⊥
    none x p up = let never : parent_of (start k) x ≡ None = start_parent k x in cc

    empty : (c : Concept) → has_concept [] c ≡ true → ⊥
    empty c e = cc

    by_kind : (cs : List Concept) → (cs ≡ []) ⊎ ((r : WordId) × (cs ≡ asserted k r)) → list_all (fits k) cs ≡ true
    by_kind cs h = elim h [
      | inl nothing ↦ ap (list_all (fits k)) nothing
      | inr (r, is) ↦ ap (list_all (fits k)) is ∙ entries_fit k (λ e. passes (representative k e.0) (is_word r)) k.assertions fit_assertions
    ]

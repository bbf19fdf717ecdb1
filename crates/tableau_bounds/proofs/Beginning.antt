-- The first branch: labels of class occurrences, each class once, and no parents.
use Rattle.std.proofs.Common.{◌≡◌, ℕ, zero, suc, ◌≤◌, List, [], ◌∷◌, ◌++◌, map, length, Option, Some, None, slice_get, refl, sym, ap, subst, inl, inr, arith}
use Rattle.std.specs.Option.{option_map_or, option_and_then}
use Rattle.std.proofs.lemmas.List.{length-map}
use Rattle.std.proofs.lemmas.Option.{same_Some}
use Rattle.wiki_base.specs.declared.numbers.WordId.{WordId}
use Rattle.logic_terms.specs.Concept.{Concept}
use Rattle.logic_terms.specs.Theory.{Theory}
use Rattle.tableau_rules.specs.Graph.{Vertex, label_at, parent_of}
use Rattle.tableau_rules.specs.Neighbours.{roots}
use Rattle.tableau_rules.specs.Rules.{with_classes}
use Rattle.tableau_rules.specs.Branches.{asserted, first_node, first_nodes, start}
use Rattle.tableau_bounds.specs.Enough.{class_occurrences}
use Rattle.tableau_bounds.proofs.Parts.{Within, in_one, general_within, asserted_within}
use Rattle.tableau_bounds.proofs.Labels.{only_classes, Unique, unique_classes}

-- a first node, of classes that occur
IsFirst : Theory → Vertex → Type 0
IsFirst k v = (cs : List Concept) × (v ≡ first_node k cs) × Within cs (class_occurrences k)

module _ (k : Theory) where
  mapped : (rs : List WordId) (y : ℕ) (v : Vertex) → slice_get (map (λ r. first_node k (asserted k r)) rs) y ≡ Some v
      → (cs : List Concept) × (v ≡ first_node k cs) × Within cs (class_occurrences k)
  mapped [] y v at = absurd (nothing y at)
    where
      nothing : (y : ℕ) → slice_get {X = Vertex} [] y ≡ Some v → ⊥
      nothing y e = cc
  mapped (r ∷ rs) zero v at = (asserted k r, sym (same_Some (first_node k (asserted k r)) v at), asserted_within k r)
  mapped (r ∷ rs) (suc y) v at = mapped rs y v at

  first : (rs : List WordId) (y : ℕ) (v : Vertex) → slice_get (first_nodes k rs) y ≡ Some v
      → (cs : List Concept) × (v ≡ first_node k cs) × Within cs (class_occurrences k)
  first [] zero v at = ([], sym (same_Some (first_node k []) v at), λ e h. cc)
  first [] (suc y) v at = absurd (nothing y at)
    where
      nothing : (y : ℕ) → slice_get {X = Vertex} [] y ≡ Some v → ⊥
      nothing y e = cc
  first (r ∷ rs) y v at = mapped (r ∷ rs) y v at

  first_label : (cs : List Concept) → Within cs (class_occurrences k) → Within (with_classes [] (cs ++ k.general)) (class_occurrences k)
  first_label cs inside =
      only_classes [] (cs ++ k.general) (class_occurrences k) (λ e h. cc)
      (λ e h. elim (in_one cs k.general e h) [ inl own ↦ inside e own | inr general ↦ general_within k e general ])

  pub start_within : (y : ℕ) → Within (label_at (start k) y) (class_occurrences k)
  start_within y = go (slice_get (start k).nodes y) refl
    where
      go : (o : Option Vertex) → slice_get (start k).nodes y ≡ o → Within (option_map_or (λ v. v.label) o []) (class_occurrences k)
      go None at = λ e h. cc
      go (Some v) at =
          let is = first (roots k) y v at in
          subst (λ u. Within u.label (class_occurrences k)) (sym is.1) (first_label is.0 is.2)

  pub start_unique : (y : ℕ) → Unique (label_at (start k) y)
  start_unique y = go (slice_get (start k).nodes y) refl
    where
      go : (o : Option Vertex) → slice_get (start k).nodes y ≡ o → Unique (option_map_or (λ v. v.label) o [])
      go None at = tt
      go (Some v) at =
          let is = first (roots k) y v at in
          subst (λ u. Unique u.label) (sym is.1) (unique_classes [] (is.0 ++ k.general) tt)

  pub start_parent : (y : ℕ) → parent_of (start k) y ≡ None
  start_parent y = go (slice_get (start k).nodes y) refl
    where
      go : (o : Option Vertex) → slice_get (start k).nodes y ≡ o → option_and_then (λ v. v.parent) o ≡ None
      go None at = refl
      go (Some v) at =
          let is = first (roots k) y v at in
          ap (λ u. u.parent) is.1

  roots_few : (rs : List WordId) → length rs ≤ length (first_nodes k rs)
  roots_few [] = omega arith
  roots_few (r ∷ rs) = same (length (r ∷ rs)) (length (first_nodes k (r ∷ rs))) (length-map (r ∷ rs) (λ q. first_node k (asserted k q)))
    where
      same : (a b : ℕ) → b ≡ a → a ≤ b
      same a b e = omega arith

  pub start_roots : length (roots k) ≤ length (start k).nodes
  start_roots = roots_few (roots k)

-- When two classes are one.
use Rattle.std.proofs.Common.{◌≡◌, ◌≢◌, ℕ, suc, ◌+◌, ◌≤◌, ◌&&◌, Bool, true, false, List, [], ◌∷◌, length, drop, map, Some, slice_get, subst, refl, sym, ap, ◌∙◌}
use Rattle.std.specs.Option.{option_map}
use Rattle.std.proofs.lemmas.List.{length-map}
use Rattle.std.proofs.lemmas.Option.{slice_get-map}
use Rattle.std.proofs.lemmas.Bool.{eqb-true, eq-eqb, and_parts}
use Rattle.std.proofs.Math.Bool.{and-false}
use Rattle.logic_terms.specs.Concept.{Concept, Concepts, Everything, Atomic, ComplementOf, IntersectionOf, UnionOf, SomeValuesFrom, AllValuesFrom, HasValue, no_concept, also_concept, concepts_from}
use Rattle.logic_terms.specs.declared.expressions.Role.{Role}
use Rattle.wiki_base.specs.declared.numbers.WordId.{WordId}
use Rattle.wiki_base.proofs.ListLaws.{drop_slice_get}
use Rattle.logic_terms.specs.Interpretation.{is_word}
use Rattle.logic_terms.specs.Same.{same_direction, same_role, same_concept, same_concepts}
use Rattle.logic_terms.proofs.Walks.{left_none}

-- lists of different lengths are not the same
pub same_concepts-length : (cs ds : List Concept) → length cs ≢ length ds → same_concepts (concepts_from cs) (concepts_from ds) ≡ false
same_concepts-length [] [] ne = absurd (ne refl)
same_concepts-length [] (d ∷ ds) ne = refl
same_concepts-length (c ∷ cs) [] ne = refl
same_concepts-length (c ∷ cs) (d ∷ ds) ne =
    ap (λ b. same_concept c d && b) (same_concepts-length cs ds (λ e. ne (ap suc e))) ∙ and-false (same_concept c d)

-- whether the rests of two lists are the same, from a place on
abbrev pub rest_same : List Concept → List Concept → ℕ → Bool
rest_same cs ds k = same_concepts (concepts_from (drop k cs)) (concepts_from (drop k ds))

pub rest_same-more : (cs ds : List Concept) (k : ℕ) (c d : Concept) → slice_get cs k ≡ Some c → slice_get ds k ≡ Some d
    → rest_same cs ds k ≡ (same_concept c d && rest_same cs ds (k + 1))
rest_same-more cs ds k c d at other =
    ap (λ xs. same_concepts (concepts_from xs) (concepts_from (drop k ds))) (drop_slice_get cs k c at)
    ∙ ap (λ xs. same_concepts (concepts_from (c ∷ drop (k + 1) cs)) (concepts_from xs)) (drop_slice_get ds k d other)

pub rest_same-none : (cs ds : List Concept) (k : ℕ) → length cs ≤ k → length ds ≤ k → rest_same cs ds k ≡ true
rest_same-none cs ds k past other =
    left_none (λ xs. same_concepts (concepts_from xs) (concepts_from (drop k ds))) cs k past
    ∙ left_none (λ xs. same_concepts no_concept (concepts_from xs)) ds k other

-- one further, where the items here are the same or not
pub rest_same-step : (cs ds : List Concept) (k : ℕ) (c d : Concept) (r : Bool) → slice_get cs k ≡ Some c → slice_get ds k ≡ Some d → r ≡ rest_same cs ds k
    → same_concept c d ≡ true → r ≡ rest_same cs ds (k + 1)
rest_same-step cs ds k c d r at other now same =
    now ∙ (rest_same-more cs ds k c d at other ∙ ap (λ b. b && rest_same cs ds (k + 1)) same)

pub rest_same-differ : (cs ds : List Concept) (k : ℕ) (c d : Concept) (r : Bool) → slice_get cs k ≡ Some c → slice_get ds k ≡ Some d → r ≡ rest_same cs ds k
    → same_concept c d ≡ false → r ≡ false
rest_same-differ cs ds k c d r at other now same =
    now ∙ (rest_same-more cs ds k c d at other ∙ ap (λ b. b && rest_same cs ds (k + 1)) same)

-- the same with what a function makes of each of the second list, as `from` makes it of all
module _ (f : Concept → Concept) (from : Concepts → Concepts) (each : (ds : List Concept) → from (concepts_from ds) ≡ concepts_from (map f ds)) where
  pub made_same-length : (cs ds : List Concept) → length cs ≢ length ds → same_concepts (concepts_from cs) (from (concepts_from ds)) ≡ false
  made_same-length cs ds ne =
      ap (same_concepts (concepts_from cs)) (each ds)
      ∙ same_concepts-length cs (map f ds) (λ e. ne (e ∙ length-map ds f))

  pub made_same-step : (cs ds : List Concept) (k : ℕ) (c d : Concept) (r : Bool) → slice_get cs k ≡ Some c → slice_get ds k ≡ Some d
      → r ≡ rest_same cs (map f ds) k → same_concept c (f d) ≡ true → r ≡ rest_same cs (map f ds) (k + 1)
  made_same-step cs ds k c d r at other now same =
      rest_same-step cs (map f ds) k c (f d) r at (slice_get-map f ds k ∙ ap (option_map f) other) now same

  pub made_same-differ : (cs ds : List Concept) (k : ℕ) (c d : Concept) (r : Bool) → slice_get cs k ≡ Some c → slice_get ds k ≡ Some d
      → r ≡ rest_same cs (map f ds) k → same_concept c (f d) ≡ false → r ≡ false
  made_same-differ cs ds k c d r at other now same =
      rest_same-differ cs (map f ds) k c (f d) r at (slice_get-map f ds k ∙ ap (option_map f) other) now same

  pub made_same-none : (cs ds : List Concept) (k : ℕ) → length cs ≤ k → length ds ≤ k → rest_same cs (map f ds) k ≡ true
  made_same-none cs ds k past other =
      rest_same-none cs (map f ds) k past (subst (λ n. n ≤ k) (sym (length-map ds f)) other)

  pub made_same-begin : (cs ds : List Concept) → same_concepts (concepts_from cs) (from (concepts_from ds)) ≡ rest_same cs (map f ds) 0
  made_same-begin cs ds = ap (same_concepts (concepts_from cs)) (each ds)

pub word_equal : (v w : WordId) → is_word v w ≡ true → v ≡ w
word_equal v w h = let e : v.0 ≡ w.0 = eqb-true v.0 w.0 h in λ j. record { 0 = e j }

direction_equal : (a b : Bool) → same_direction a b ≡ true → a ≡ b
direction_equal true true h = refl
direction_equal true false h = cc
direction_equal false true h = cc
direction_equal false false h = refl

pub role_equal : (r s : Role) → same_role r s ≡ true → r ≡ s
role_equal r s h =
    let p : (is_word r.id s.id ≡ true) × (same_direction r.inverted s.inverted ≡ true) =
    and_parts (is_word r.id s.id) (same_direction r.inverted s.inverted) h in
    let e : r.id ≡ s.id = word_equal r.id s.id p.0 in
    let d : r.inverted ≡ s.inverted = direction_equal r.inverted s.inverted p.1 in
    λ j. record { id = e j; inverted = d j }

-- classes that the test calls the same are equal
mutual
  pub same_concept-equal : (c d : Concept) → same_concept c d ≡ true → c ≡ d
  same_concept-equal Everything Everything h = refl
  same_concept-equal (Atomic v) (Atomic w) h = ap Atomic (word_equal v w h)
  same_concept-equal (ComplementOf c) (ComplementOf d) h = ap ComplementOf (same_concept-equal c d h)
  same_concept-equal (IntersectionOf cs) (IntersectionOf ds) h = ap IntersectionOf (same_concepts-equal cs ds h)
  same_concept-equal (UnionOf cs) (UnionOf ds) h = ap UnionOf (same_concepts-equal cs ds h)
  same_concept-equal (SomeValuesFrom r c) (SomeValuesFrom s d) h =
      let p : (same_role r s ≡ true) × (same_concept c d ≡ true) = and_parts (same_role r s) (same_concept c d) h in
      ap (λ t. SomeValuesFrom t c) (role_equal r s p.0) ∙ ap (SomeValuesFrom s) (same_concept-equal c d p.1)
  same_concept-equal (AllValuesFrom r c) (AllValuesFrom s d) h =
      let p : (same_role r s ≡ true) × (same_concept c d ≡ true) = and_parts (same_role r s) (same_concept c d) h in
      ap (λ t. AllValuesFrom t c) (role_equal r s p.0) ∙ ap (AllValuesFrom s) (same_concept-equal c d p.1)
  same_concept-equal (HasValue r a) (HasValue s b) h =
      let p : (same_role r s ≡ true) × (is_word a b ≡ true) = and_parts (same_role r s) (is_word a b) h in
      ap (λ t. HasValue t a) (role_equal r s p.0) ∙ ap (HasValue s) (word_equal a b p.1)
  same_concept-equal _ _ h = cc

  pub same_concepts-equal : (cs ds : Concepts) → same_concepts cs ds ≡ true → cs ≡ ds
  same_concepts-equal no_concept no_concept h = refl
  same_concepts-equal (also_concept c cs) (also_concept d ds) h =
      let p : (same_concept c d ≡ true) × (same_concepts cs ds ≡ true) = and_parts (same_concept c d) (same_concepts cs ds) h in
      ap (λ k. also_concept k cs) (same_concept-equal c d p.0) ∙ ap (also_concept d) (same_concepts-equal cs ds p.1)
  same_concepts-equal _ _ h = cc

pub same_word : (w : WordId) → is_word w w ≡ true
same_word w = eq-eqb w.0 w.0 refl

same_self : (b : Bool) → same_direction b b ≡ true
same_self true = refl
same_self false = refl

pub same_role-self : (r : Role) → same_role r r ≡ true
same_role-self r =
    ap (λ b. b && same_direction r.inverted r.inverted) (same_word r.id) ∙ same_self r.inverted

-- each class is the same as itself
mutual
  pub same_concept-self : (c : Concept) → same_concept c c ≡ true
  same_concept-self Everything = refl
  same_concept-self (Atomic w) = same_word w
  same_concept-self (ComplementOf c) = same_concept-self c
  same_concept-self (IntersectionOf cs) = same_concepts-self cs
  same_concept-self (UnionOf cs) = same_concepts-self cs
  same_concept-self (SomeValuesFrom r c) = ap (λ b. b && same_concept c c) (same_role-self r) ∙ same_concept-self c
  same_concept-self (AllValuesFrom r c) = ap (λ b. b && same_concept c c) (same_role-self r) ∙ same_concept-self c
  same_concept-self (HasValue r a) = ap (λ b. b && is_word a a) (same_role-self r) ∙ same_word a

  pub same_concepts-self : (cs : Concepts) → same_concepts cs cs ≡ true
  same_concepts-self no_concept = refl
  same_concepts-self (also_concept c cs) = ap (λ b. b && same_concepts cs cs) (same_concept-self c) ∙ same_concepts-self cs

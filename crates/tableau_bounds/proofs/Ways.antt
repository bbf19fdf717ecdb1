-- The way up from a node that is not blocked: its anonymous nodes have different labels, so they are few.
use Rattle.std.proofs.Common.{◌≡◌, ℕ, zero, suc, ◌^◌, ◌<◌, ◌≤◌, ◌&&◌, Bool, true, false, List, [], ◌∷◌, map, filter, length, cond, Some, refl, sym, ap, ◌∙◌, subst, inl, inr, arith}
use Rattle.std.specs.Prelude.{not}
use Rattle.std.specs.List.{list_any, list_all}
use Rattle.std.proofs.lemmas.Bool.{and_from, and_parts, or_cases, or_left, or_right, or_parts, or_from, false_from_ne_true, not_from_false}
use Rattle.std.proofs.lemmas.List.{length-map}
use Rattle.wiki_base.proofs.BoolLaws.{not_both}
use Rattle.tableau_rules.proofs.Ancestors.{climb-some, parent_cases, ancestors-some, ancestors-none}
use Rattle.tableau_rules.proofs.Climbing.{climb-top}
use Rattle.logic_terms.specs.Concept.{Concept}
use Rattle.logic_terms.specs.Same.{same_concept, has_concept}
use Rattle.logic_terms.specs.Theory.{Theory}
use Rattle.logic_terms.proofs.SameLemmas.{same_concept-equal, same_concept-self}
use Rattle.tableau_rules.specs.Graph.{Graph, label_at, parent_of}
use Rattle.tableau_rules.specs.Blocking.{climb, ancestors, is_anonymous, same_classes, has_twin, blocks, is_blocked}
use Rattle.tableau_bounds.specs.Enough.{class_occurrences, class_count}
use Rattle.tableau_bounds.proofs.Parts.{Within}
use Rattle.tableau_bounds.proofs.Stepping.{ParentsBelow}
use Rattle.tableau_bounds.proofs.Subsets.{alike, agree, Apart, most_apart}

-- where parents stay, so do ancestors
climb_same : (n : ℕ) (g h : Graph) → ParentsBelow g → ((y : ℕ) → y < length g.nodes → parent_of h y ≡ parent_of g y) → (x : ℕ) → x < length g.nodes
    → climb n h x ≡ climb n g x
climb_same zero g h down same x lt = refl
climb_same (suc n) g h down same x lt = elim (parent_cases g x) [
  | inl up ↦ climb-top (suc n) h x (same x lt ∙ up) ∙ sym (climb-top (suc n) g x up)
  | inr (p, up) ↦
      climb-some n h x p (same x lt ∙ up) ∙ ap (λ l. p ∷ l) (climb_same n g h down same p (through p x (length g.nodes) (down x p up) lt))
      ∙ sym (climb-some n g x p up)
]
  where
    through : (a b c : ℕ) → a < b → b < c → a < c
    through a b c le up = omega arith

pub ancestors_same : (g h : Graph) → ParentsBelow g → ((y : ℕ) → y < length g.nodes → parent_of h y ≡ parent_of g y) → (x : ℕ) → x < length g.nodes
    → ancestors h x ≡ ancestors g x
ancestors_same g h down same x lt = climb_same x g h down same x lt

-- how many nodes stand above one
abbrev pub depth : Graph → ℕ → ℕ
depth g x = length (ancestors g x)

-- labels that agree on the class occurrences have the same classes
both_true : (a b : Bool) → alike a b ≡ true → a ≡ true → b ≡ true
both_true true b h t = h
both_true false b h t = cc

both_back : (a b : Bool) → alike a b ≡ true → b ≡ true → a ≡ true
both_back true b h t = refl
both_back false true h t = cc
both_back false false h t = cc

agree_at : (all cs ds : List Concept) (e : Concept) → agree has_concept all cs ds ≡ true → has_concept all e ≡ true
    → alike (has_concept cs e) (has_concept ds e) ≡ true
agree_at [] cs ds e same h = cc
agree_at (c ∷ all) cs ds e same h =
    let parts = and_parts (alike (has_concept cs c) (has_concept ds c)) (agree has_concept all cs ds) same in
    elim (or_cases (same_concept c e) (has_concept all e) h) [
      | inl is ↦ subst (λ z. alike (has_concept cs z) (has_concept ds z) ≡ true) (same_concept-equal c e is) parts.0
      | inr later ↦ agree_at all cs ds e parts.1 later
    ]

all_from : (test : Concept → Bool) (cs : List Concept) → ((e : Concept) → has_concept cs e ≡ true → test e ≡ true) → list_all test cs ≡ true
all_from test [] each = refl
all_from test (c ∷ cs) each =
    and_from (test c) (list_all test cs) (each c (or_left (same_concept c c) (has_concept cs c) (same_concept-self c)))
    (all_from test cs (λ e h. each e (or_right (same_concept c e) (has_concept cs e) h)))

agree_same : (all cs ds : List Concept) → Within cs all → Within ds all → agree has_concept all cs ds ≡ true → same_classes cs ds ≡ true
agree_same all cs ds one other same =
    and_from (list_all (has_concept ds) cs) (list_all (has_concept cs) ds)
    (all_from (has_concept ds) cs (λ e h. both_true (has_concept cs e) (has_concept ds e) (agree_at all cs ds e same (one e h)) h))
    (all_from (has_concept cs) ds (λ e h. both_back (has_concept cs e) (has_concept ds e) (agree_at all cs ds e same (other e h)) h))

module _ (k : Theory) (g : Graph) (within : (y : ℕ) → Within (label_at g y) (class_occurrences k)) where
  -- the labels of the anonymous nodes of a way
  abbrev labels_on : List ℕ → List (List Concept)
  labels_on zs = map (label_at g) (filter (is_anonymous k) zs)

  no_twin : (x : ℕ) (zs : List ℕ) → has_twin k g x zs ≡ false → list_any (agree has_concept (class_occurrences k) (label_at g x)) (labels_on zs) ≡ false
  no_twin x [] none = refl
  no_twin x (z ∷ zs) none =
      let parts = or_parts (is_anonymous k z && same_classes (label_at g x) (label_at g z)) (has_twin k g x zs) none in
      go (is_anonymous k z) parts.0 (no_twin x zs parts.1)
    where
      go : (b : Bool) → (b && same_classes (label_at g x) (label_at g z)) ≡ false
          → list_any (agree has_concept (class_occurrences k) (label_at g x)) (labels_on zs) ≡ false
          → list_any (agree has_concept (class_occurrences k) (label_at g x))
          (map (label_at g) (cond b (z ∷ filter (is_anonymous k) zs) (filter (is_anonymous k) zs))) ≡ false
      go true differ rest =
          or_from (agree has_concept (class_occurrences k) (label_at g x) (label_at g z))
          (list_any (agree has_concept (class_occurrences k) (label_at g x)) (labels_on zs))
          (false_from_ne_true (agree has_concept (class_occurrences k) (label_at g x) (label_at g z))
          (λ t. not_both (agree_same (class_occurrences k) (label_at g x) (label_at g z) (within x) (within z) t) differ)) rest
      go false differ rest = rest

  labels_apart : (zs : List ℕ) → blocks k g zs ≡ false → Apart has_concept (class_occurrences k) (labels_on zs)
  labels_apart [] free = tt
  labels_apart (z ∷ zs) free =
      let parts = or_parts (is_anonymous k z && (has_twin k g z zs && not (blocks k g zs))) (blocks k g zs) free in
      go (is_anonymous k z) parts.0 parts.1 (labels_apart zs parts.1)
    where
      twin_free : (t b : Bool) → (t && not b) ≡ false → b ≡ false → t ≡ false
      twin_free true b h f = absurd (not_both (not_from_false b f) h)
      twin_free false b h f = refl

      go : (b : Bool) → (b && (has_twin k g z zs && not (blocks k g zs))) ≡ false → blocks k g zs ≡ false
          → Apart has_concept (class_occurrences k) (labels_on zs)
          → Apart has_concept (class_occurrences k) (map (label_at g) (cond b (z ∷ filter (is_anonymous k) zs) (filter (is_anonymous k) zs)))
      go true here above rest = (no_twin z zs (twin_free (has_twin k g z zs) (blocks k g zs) here above), rest)
      go false here above rest = rest

  anonymous_few : (zs : List ℕ) → blocks k g zs ≡ false → length (filter (is_anonymous k) zs) ≤ 2 ^ class_count k
  anonymous_few zs free =
      subst (λ n. n ≤ 2 ^ class_count k) (length-map (filter (is_anonymous k) zs) (label_at g))
      (most_apart has_concept (class_occurrences k) (labels_on zs) (labels_apart zs free))

  -- a node with parent is anonymous
  module _ (down : ParentsBelow g) (made : (y p : ℕ) → parent_of g y ≡ Some p → is_anonymous k y ≡ true) where
    counted : (x : ℕ) (zs : List ℕ) → is_anonymous k x ≡ true → length (filter (is_anonymous k) (x ∷ zs)) ≡ suc (length (filter (is_anonymous k) zs))
    counted x zs is = ap (λ b. length (cond b (x ∷ filter (is_anonymous k) zs) (filter (is_anonymous k) zs))) is

    deep_anonymous : (n x : ℕ) → x ≤ n → depth g x ≤ length (filter (is_anonymous k) (x ∷ ancestors g x))
    deep_anonymous zero x le = elim (parent_cases g x) [
      | inl up ↦ subst (λ l. length l ≤ length (filter (is_anonymous k) (x ∷ ancestors g x))) (sym (ancestors-none g x up)) (omega arith)
      | inr (p, up) ↦ (let lt = down x p up in absurd (omega arith))
    ]
    deep_anonymous (suc n) x le = elim (parent_cases g x) [
      | inl up ↦ subst (λ l. length l ≤ length (filter (is_anonymous k) (x ∷ ancestors g x))) (sym (ancestors-none g x up)) (omega arith)
      | inr (p, up) ↦ (let lt = down x p up in
          subst (λ l. length l ≤ length (filter (is_anonymous k) (x ∷ l))) (sym (ancestors-some g down x p up))
          (subst (λ z. suc (depth g p) ≤ z) (sym (counted x (p ∷ ancestors g p) (made x p up)))
          (up_one (depth g p) (length (filter (is_anonymous k) (p ∷ ancestors g p))) (deep_anonymous n p (omega arith)))))
    ]
      where
        up_one : (a b : ℕ) → a ≤ b → suc a ≤ suc b
        up_one a b le = omega arith

    pub unblocked_low : (x : ℕ) → is_blocked k g x ≡ false → depth g x ≤ 2 ^ class_count k
    unblocked_low x free = through (depth g x) (length (filter (is_anonymous k) (x ∷ ancestors g x))) (2 ^ class_count k) (deep_anonymous x x (le_self x))
        (anonymous_few (x ∷ ancestors g x) free)
      where
        through : (a b c : ℕ) → a ≤ b → b ≤ c → a ≤ c
        through a b c le up = omega arith

        le_self : (n : ℕ) → n ≤ n
        le_self n = omega arith

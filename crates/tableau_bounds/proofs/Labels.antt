-- Labels: they grow at their end and have each class once, and lists of nodes that change.
use Rattle.std.proofs.Common.{◌≡◌, ℕ, suc, ◌+◌, ◌<◌, ◌≤◌, ◌||◌, ◌⊎◌, Bool, true, false, List, [], ◌∷◌, ◌++◌, filter, length, cond, refl, sym, ap, ◌∙◌, subst, inl, inr, arith, length-append, append_assoc, append-nil}
use Rattle.std.specs.Prelude.{not}
use Rattle.std.proofs.lemmas.Bool.{cases_Bool, or_cases, or_left, or_right, or_parts, or_from, cond-true, cond-false, false_from_ne_true, not_from_false, not-true}
use Rattle.wiki_base.proofs.BoolLaws.{not_both}
use Rattle.tableau_rules.proofs.Labels.{has-append, new_one, each_has}
use Rattle.logic_terms.specs.Concept.{Concept}
use Rattle.logic_terms.specs.Same.{same_concept, has_concept}
use Rattle.logic_terms.proofs.SameLemmas.{same_concept-equal, same_concept-self}
use Rattle.tableau_rules.specs.Rules.{lacks_some, lacks_all, with_class, with_classes}
use Rattle.tableau_bounds.proofs.Parts.{Within, in_first, in_one}

pub filter_within : (p : Concept → Bool) (cs : List Concept) → Within (filter p cs) cs
filter_within p [] e h = h
filter_within p (c ∷ cs) e h = go (p c) h (filter_within p cs e)
  where
    go : (b : Bool) → has_concept (cond b (c ∷ filter p cs) (filter p cs)) e ≡ true → (has_concept (filter p cs) e ≡ true → has_concept cs e ≡ true)
        → has_concept (c ∷ cs) e ≡ true
    go true there rest = elim (or_cases (same_concept c e) (has_concept (filter p cs) e) there) [
      | inl same ↦ or_left (same_concept c e) (has_concept cs e) same
      | inr later ↦ or_right (same_concept c e) (has_concept cs e) (rest later)
    ]
    go false there rest = or_right (same_concept c e) (has_concept cs e) (rest there)

pub one_within : (d : Concept) (ds : List Concept) → has_concept ds d ≡ true → Within (d ∷ []) ds
one_within d ds h e there = elim (or_cases (same_concept d e) false there) [
  | inl same ↦ subst (λ z. has_concept ds z ≡ true) (same_concept-equal d e same) h
  | inr never ↦ cc
]

-- what a label gets
pub kept_one : (label : List Concept) (c : Concept) → Within label (with_class label c)
kept_one label c d h = elim (cases_Bool (has_concept label c)) [
  | inl t ↦ ap (λ l. has_concept l d) (cond-true (has_concept label c) label (label ++ c ∷ []) t) ∙ h
  | inr f ↦ ap (λ l. has_concept l d) (cond-false (has_concept label c) label (label ++ c ∷ []) f) ∙ in_first label (c ∷ []) d h
]

only_one : (label : List Concept) (c d : Concept) → has_concept (with_class label c) d ≡ true → (has_concept label d ≡ true) ⊎ (has_concept (c ∷ []) d ≡ true)
only_one label c d h = elim (cases_Bool (has_concept label c)) [
  | inl t ↦ inl (sym (ap (λ l. has_concept l d) (cond-true (has_concept label c) label (label ++ c ∷ []) t)) ∙ h)
  | inr f ↦ in_one label (c ∷ []) d (sym (ap (λ l. has_concept l d) (cond-false (has_concept label c) label (label ++ c ∷ []) f)) ∙ h)
]

pub kept_classes : (label cs : List Concept) → Within label (with_classes label cs)
kept_classes label [] d h = h
kept_classes label (c ∷ cs) d h = kept_classes (with_class label c) cs d (kept_one label c d h)

pub new_classes : (label cs : List Concept) → Within cs (with_classes label cs)
new_classes label [] d h = cc
new_classes label (c ∷ cs) d h = elim (or_cases (same_concept c d) (has_concept cs d) h) [
  | inl same ↦ kept_classes (with_class label c) cs d (subst (λ e. has_concept (with_class label c) e ≡ true) (same_concept-equal c d same) (new_one label c))
  | inr later ↦ new_classes (with_class label c) cs d later
]

pub only_classes : (label cs ds : List Concept) → Within label ds → Within cs ds → Within (with_classes label cs) ds
only_classes label [] ds old new = old
only_classes label (c ∷ cs) ds old new =
    only_classes (with_class label c) cs ds
    (λ d h. elim (only_one label c d h) [
      | inl before ↦ old d before
      | inr here ↦ new d (elim (or_cases (same_concept c d) false here) [ inl same ↦ or_left (same_concept c d) (has_concept cs d) same | inr never ↦ cc ])
    ])
    (λ d h. new d (or_right (same_concept c d) (has_concept cs d) h))

-- a list that begins with another
abbrev pub BeginsWith : List Concept → List Concept → Type 0
BeginsWith label new = (more : List Concept) × (new ≡ label ++ more)

pub with_classes_begins : (label cs : List Concept) → BeginsWith label (with_classes label cs)
with_classes_begins label [] = ([], sym (append-nil label))
with_classes_begins label (c ∷ cs) = elim (cases_Bool (has_concept label c)) [
  | inl t ↦
      let same : with_class label c ≡ label = cond-true (has_concept label c) label (label ++ c ∷ []) t in
      let rest = with_classes_begins (with_class label c) cs in
      (rest.0, rest.1 ∙ ap (λ l. l ++ rest.0) same)
  | inr f ↦
      let longer : with_class label c ≡ label ++ c ∷ [] = cond-false (has_concept label c) label (label ++ c ∷ []) f in
      let rest = with_classes_begins (with_class label c) cs in
      (c ∷ rest.0, rest.1 ∙ (ap (λ l. l ++ rest.0) longer ∙ append_assoc label (c ∷ []) rest.0))
]

-- a label that lacked something is longer
missing : (label cs : List Concept) → lacks_some label cs ≡ true → (d : Concept) × (has_concept cs d ≡ true) × (has_concept label d ≡ false)
missing label [] h = cc
missing label (c ∷ cs) h = elim (or_cases (not (has_concept label c)) (lacks_some label cs) h) [
  | inl here ↦ (c, or_left (same_concept c c) (has_concept cs c) (same_concept-self c), not-true (has_concept label c) here)
  | inr later ↦ let rest = missing label cs later in (rest.0, or_right (same_concept c rest.0) (has_concept cs rest.0) rest.1, rest.2)
]

pub lacking_grows : (label cs : List Concept) → lacks_some label cs ≡ true → length label < length (with_classes label cs)
lacking_grows label cs h =
    let d = missing label cs h in
    let longer = with_classes_begins label cs in
    go longer.0 longer.1 d.0 (new_classes label cs d.0 d.1) d.2
  where
    sum : (a b n : ℕ) → n ≡ a + suc b → a < n
    sum a b n e = omega arith

    go : (more : List Concept) → with_classes label cs ≡ label ++ more → (d : Concept) → has_concept (with_classes label cs) d ≡ true
        → has_concept label d ≡ false → length label < length (with_classes label cs)
    go [] is d there lacks = absurd (not_both (sym (ap (λ l. has_concept l d) (is ∙ append-nil label)) ∙ there) lacks)
    go (c ∷ more) is d there lacks = sum (length label) (length more) (length (with_classes label cs)) (ap length is ∙ length-append label (c ∷ more))

pub lacks_one : (label : List Concept) (d : Concept) → has_concept label d ≡ false → lacks_some label (d ∷ []) ≡ true
lacks_one label d h = or_left (not (has_concept label d)) false (not_from_false (has_concept label d) h)

pub lacks_member : (label cs : List Concept) (d : Concept) → lacks_all label cs ≡ true → has_concept cs d ≡ true → has_concept label d ≡ false
lacks_member label cs d all h = not-true (has_concept label d) (each_has (λ c. not (has_concept label c)) cs d all h)

-- each class once
abbrev pub Unique : List Concept → Type 0
Unique [] = Unit {0}
Unique (c ∷ cs) = (has_concept cs c ≡ false) × Unique cs

unique_push : (cs : List Concept) (c : Concept) → Unique cs → has_concept cs c ≡ false → Unique (cs ++ c ∷ [])
unique_push [] c unique new = (refl, tt)
unique_push (d ∷ ds) c unique new =
    let parts = or_parts (same_concept d c) (has_concept ds c) new in
    let other : same_concept c d ≡ false =
    false_from_ne_true (same_concept c d)
    (λ t. not_both (subst (λ z. same_concept d z ≡ true) (sym (same_concept-equal c d t)) (same_concept-self d)) parts.0) in (
      has-append ds (c ∷ []) d ∙ or_from (has_concept ds d) (same_concept c d || false) unique.0 (or_from (same_concept c d) false other refl),
      unique_push ds c unique.1 parts.1,
    )

pub unique_classes : (label cs : List Concept) → Unique label → Unique (with_classes label cs)
unique_classes label [] unique = unique
unique_classes label (c ∷ cs) unique = unique_classes (with_class label c) cs (elim (cases_Bool (has_concept label c)) [
  | inl t ↦ subst Unique (sym (cond-true (has_concept label c) label (label ++ c ∷ []) t)) unique
  | inr f ↦ subst Unique (sym (cond-false (has_concept label c) label (label ++ c ∷ []) f)) (unique_push label c unique f)
])

-- a list without one of its items
abbrev without : Concept → List Concept → List Concept
without c [] = []
without c (d ∷ ds) = cond (same_concept d c) ds (d ∷ without c ds)

without_length : (c : Concept) (ds : List Concept) → has_concept ds c ≡ true → length ds ≡ suc (length (without c ds))
without_length c [] h = cc
without_length c (d ∷ ds) h = go (same_concept d c) h (without_length c ds)
  where
    go : (b : Bool) → (b || has_concept ds c) ≡ true → (has_concept ds c ≡ true → length ds ≡ suc (length (without c ds)))
        → suc (length ds) ≡ suc (length (cond b ds (d ∷ without c ds)))
    go true e rest = refl
    go false e rest = ap suc (rest e)

without_still : (c : Concept) (ds : List Concept) (e : Concept) → has_concept ds e ≡ true → same_concept c e ≡ false → has_concept (without c ds) e ≡ true
without_still c [] e h other = h
without_still c (d ∷ ds) e h other = go (same_concept d c) refl (or_cases (same_concept d e) (has_concept ds e) h) (λ there. without_still c ds e there other)
  where
    go : (b : Bool) → same_concept d c ≡ b → (same_concept d e ≡ true) ⊎ (has_concept ds e ≡ true)
        → (has_concept ds e ≡ true → has_concept (without c ds) e ≡ true) → has_concept (cond b ds (d ∷ without c ds)) e ≡ true
    go true is (inl same) rest = absurd (not_both (subst (λ z. same_concept z e ≡ true) (same_concept-equal d c is) same) other)
    go true is (inr later) rest = later
    go false is (inl same) rest = or_left (same_concept d e) (has_concept (without c ds) e) same
    go false is (inr later) rest = or_right (same_concept d e) (has_concept (without c ds) e) (rest later)

-- different classes that are all in a list are at most as many
pub unique_fits : (cs ds : List Concept) → Unique cs → Within cs ds → length cs ≤ length ds
unique_fits [] ds unique within = omega arith
unique_fits (c ∷ cs) ds unique within =
    let less : length cs ≤ length (without c ds) =
    unique_fits cs (without c ds) unique.1 (λ e h. without_still c ds e (within e (or_right (same_concept c e) (has_concept cs e) h))
    (false_from_ne_true (same_concept c e) (λ t. not_both (subst (λ z. has_concept cs z ≡ true) (sym (same_concept-equal c e t)) h) unique.0))) in
    sum (length cs) (length (without c ds)) (length ds) less
    (without_length c ds (within c (or_left (same_concept c c) (has_concept cs c) (same_concept-self c))))
  where
    sum : (a b n : ℕ) → a ≤ b → n ≡ suc b → suc a ≤ n
    sum a b n le e = omega arith

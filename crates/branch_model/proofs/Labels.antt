-- Labels that grow, and lists of nodes that change.
use Rattle.std.proofs.Common.{◌≡◌, true, false, List, [], ◌∷◌, ◌++◌, sym, ap, ◌∙◌, subst, inl, inr}
use Rattle.std.specs.Prelude.{◌⊎◌}
use Rattle.std.proofs.lemmas.Bool.{cases_Bool, or_cases, or_left, or_right, cond-true, cond-false}
use Rattle.logic_terms.proofs.SameLemmas.{same_concept-equal, same_concept-self}
use Rattle.tableau_rules.proofs.Labels.{has-append, new_one}
use Rattle.logic_terms.specs.Concept.{Concept}
use Rattle.logic_terms.specs.Same.{same_concept, has_concept}
use Rattle.tableau_rules.specs.Rules.{with_class, with_classes}

-- a label with one more class has what it had, that class, and nothing else
pub kept_one : (label : List Concept) (c d : Concept) → has_concept label d ≡ true → has_concept (with_class label c) d ≡ true
kept_one label c d h = elim (cases_Bool (has_concept label c)) [
  | inl t ↦ ap (λ l. has_concept l d) (cond-true (has_concept label c) label (label ++ c ∷ []) t) ∙ h
  | inr f ↦ ap (λ l. has_concept l d) (cond-false (has_concept label c) label (label ++ c ∷ []) f) ∙ has-append label (c ∷ []) d
      ∙ or_left (has_concept label d) (has_concept (c ∷ []) d) h
]

only_one : (label : List Concept) (c d : Concept) → has_concept (with_class label c) d ≡ true → (has_concept label d ≡ true) ⊎ (c ≡ d)
only_one label c d h = elim (cases_Bool (has_concept label c)) [
  | inl t ↦ inl (sym (ap (λ l. has_concept l d) (cond-true (has_concept label c) label (label ++ c ∷ []) t)) ∙ h)
  | inr f ↦ elim (or_cases (has_concept label d) (has_concept (c ∷ []) d)
      (sym (ap (λ l. has_concept l d) (cond-false (has_concept label c) label (label ++ c ∷ []) f) ∙ has-append label (c ∷ []) d) ∙ h)) [
        | inl old ↦ inl old
        | inr new ↦ elim (or_cases (same_concept c d) false new) [ inl same ↦ inr (same_concept-equal c d same) | inr never ↦ absurd (both never) ]
      ]
]
  where
    both : false ≡ true → ⊥
    both e = cc

-- the same of several classes
pub kept_classes : (label cs : List Concept) (d : Concept) → has_concept label d ≡ true → has_concept (with_classes label cs) d ≡ true
kept_classes label [] d h = h
kept_classes label (c ∷ cs) d h = kept_classes (with_class label c) cs d (kept_one label c d h)

pub new_classes : (label cs : List Concept) (d : Concept) → has_concept cs d ≡ true → has_concept (with_classes label cs) d ≡ true
new_classes label [] d h = cc
new_classes label (c ∷ cs) d h = elim (or_cases (same_concept c d) (has_concept cs d) h) [
  | inl here ↦ kept_classes (with_class label c) cs d (subst (λ e. has_concept (with_class label c) e ≡ true) (same_concept-equal c d here) (new_one label c))
  | inr later ↦ new_classes (with_class label c) cs d later
]

pub only_classes : (label cs : List Concept) (d : Concept) → has_concept (with_classes label cs) d ≡ true
    → (has_concept label d ≡ true) ⊎ (has_concept cs d ≡ true)
only_classes label [] d h = inl h
only_classes label (c ∷ cs) d h = elim (only_classes (with_class label c) cs d h) [
  | inl before ↦ elim (only_one label c d before) [
    | inl old ↦ inl old
    | inr same ↦ inr (or_left (same_concept c d) (has_concept cs d) (ap (λ e. same_concept e d) same ∙ same_concept-self d))
  ]
  | inr later ↦ inr (or_right (same_concept c d) (has_concept cs d) later)
]

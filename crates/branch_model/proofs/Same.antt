-- Classes that are written alike are one, and labels with the same classes have each class of each other.
use Rattle.std.proofs.Common.{◌≡◌, ℕ, suc, ◌<◌, true, List, [], ◌∷◌, length, Some, slice_get, ap, inl, inr, arith}
use Rattle.std.specs.List.{list_all}
use Rattle.std.proofs.lemmas.Bool.{and_parts, or_cases}
use Rattle.tableau_rules.proofs.Labels.{each_has}
use Rattle.logic_terms.proofs.SameLemmas.{same_concept-equal}
use Rattle.logic_terms.specs.Concept.{Concept}
use Rattle.logic_terms.specs.Same.{same_concept, has_concept}
use Rattle.tableau_rules.specs.Blocking.{same_classes}

-- a class that a list has stands at a place of it
pub place_of : (cs : List Concept) (c : Concept) → has_concept cs c ≡ true → (place : ℕ) × (place < length cs) × (slice_get cs place ≡ Some c)
place_of [] c h = cc
place_of (d ∷ cs) c h = elim (or_cases (same_concept d c) (has_concept cs c) h) [
  | inl here ↦ (0, omega arith, ap Some (same_concept-equal d c here))
  | inr later ↦ (let found = place_of cs c later in (suc found.0, omega (arith, found.1), found.2))
]

pub same_has : (cs ds : List Concept) (c : Concept) → same_classes cs ds ≡ true → has_concept cs c ≡ true → has_concept ds c ≡ true
same_has cs ds c same h =
    each_has (has_concept ds) cs c (and_parts (list_all (has_concept ds) cs) (list_all (has_concept cs) ds) same).0 h

pub same_has_back : (cs ds : List Concept) (c : Concept) → same_classes cs ds ≡ true → has_concept ds c ≡ true → has_concept cs c ≡ true
same_has_back cs ds c same h =
    each_has (has_concept cs) ds c (and_parts (list_all (has_concept ds) cs) (list_all (has_concept cs) ds) same).1 h

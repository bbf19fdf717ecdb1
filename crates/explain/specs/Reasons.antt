-- Least lists of parts of knowledge that contradict each other.
use Rattle.std.specs.Prelude.{◌≡◌, ◌⊎◌, ◌==◌, ℕ, zero, suc, not, List, [], ◌∷◌, ◌++◌, length, get_or, filter}
use Rattle.std.specs.List.{flat_map}
use Rattle.wiki_base.specs.declared.numbers.WordId.{WordId}
use Rattle.logic_terms.specs.Concept.{Claim}
use Rattle.logic_terms.specs.Theory.{Theory}
use Rattle.absorb.specs.Absorbed.{IsAbsorbed}
use Rattle.tableau_rules.specs.Searching.{IsLonger}
use Rattle.reasoner.specs.Verdicts.{HaveNoModel}

-- so many places, from one on
abbrev pub places_from : ℕ → ℕ → List ℕ
places_from first zero = []
places_from first (suc count) = first ∷ places_from (suc first) count

-- the places of all parts
abbrev pub places_of : List (List Claim) → List ℕ
places_of parts = places_from 0 (length parts)

-- the axioms of the parts at these places, in order
abbrev pub stated_at : List (List Claim) → List ℕ → List Claim
stated_at parts places = flat_map (λ place. get_or parts place []) places

-- the places but for one
abbrev pub without : ℕ → List ℕ → List ℕ
without place places = filter (λ other. not (other == place)) places

-- What is left of a list of places, of which the kept ones were tried and the others are tried one after the other: a place is left out
-- where the axioms at the others in the list have no finite model.
abbrev pub IsLeft : List (List Claim) → List ℕ → List ℕ → List ℕ → Type 0
IsLeft parts kept [] left = left ≡ kept
IsLeft parts kept (place ∷ places) left =
    (HaveNoModel (stated_at parts (kept ++ places)) × IsLeft parts kept places left)
    ⊎ ((¬ HaveNoModel (stated_at parts (kept ++ places))) × IsLeft parts (kept ++ place ∷ []) places left)

-- the reason why parts contradict each other: what is left of the list of all of them
abbrev pub IsReason : List (List Claim) → List ℕ → Type 0
IsReason parts left = IsLeft parts [] (places_of parts) left

-- one of the lists of which it is asked on this way whether their axioms have a finite model
abbrev pub IsTried : List (List Claim) → List ℕ → List ℕ → List ℕ → Type 0
IsTried parts kept [] asked = ⊥
IsTried parts kept (place ∷ places) asked =
    (asked ≡ kept ++ places)
    ⊎ ((HaveNoModel (stated_at parts (kept ++ places)) × IsTried parts kept places asked)
    ⊎ ((¬ HaveNoModel (stated_at parts (kept ++ places))) × IsTried parts (kept ++ place ∷ []) places asked))

-- all parts are asked of, and then those lists
abbrev pub IsAsked : List (List Claim) → List ℕ → Type 0
IsAsked parts asked = (asked ≡ places_of parts) ⊎ IsTried parts [] (places_of parts) asked

-- the systematic search over the axioms, absorbed with these names, has not ended after so many rule applications
pub record IsUndecided (claims : List Claim) (names : List WordId) (budget : ℕ) : Type 0 where
  pub knowledge : Theory
  pub absorbed : IsAbsorbed claims names knowledge
  pub longer : IsLonger knowledge budget

-- What is known of lists of parts on the way to a reason. Only private calls speak of it.
use Rattle.std.specs.Prelude.{ℕ, ◌+◌, ◌<◌, ◌≤◌, List, [], ◌∷◌, All, ◌++◌, length, IsTrue}
use Rattle.std.specs.List.{AllZip}
use Rattle.wiki_base.specs.declared.numbers.WordId.{WordId}
use Rattle.logic_terms.specs.Concept.{Claim}
use Rattle.logic_terms.specs.Interpretation.{Interpretation}
use Rattle.logic_terms.specs.Plain.{are_plain}
use Rattle.absorb.specs.Mentioned.{are_over}
use Rattle.tableau_rules.specs.declared.step.Closed.{Closed}
use Rattle.tableau_rules.specs.Trees.{tree_of}
use Rattle.reasoner.specs.Verdicts.{IsFiniteModel, HaveNoModel, ClosesAll}
use Rattle.explain.specs.declared.narrowing.Core.{Core}
use Rattle.explain.specs.Reasons.{stated_at, without}

-- the axioms of all parts are over the names and plain
pub record AreFit (parts : List (List Claim)) (names : List WordId) : Type 0 where
  pub over : All (λ claims. IsTrue (are_over names claims)) parts
  pub plain : All (λ claims. IsTrue (are_plain claims)) parts

-- the axioms have no finite model, as the tree shows
pub record IsShut (claims : List Claim) (names : List WordId) (tree : Closed) : Type 0 where
  pub closed : ClosesAll claims names (tree_of tree)
  pub none : HaveNoModel claims

-- places that rise, from one on and below an end
abbrev pub AreBetween : ℕ → ℕ → List ℕ → Type 0
AreBetween from to [] = Unit {0}
AreBetween from to (place ∷ places) = (from ≤ place) × ((place < to) × AreBetween (place + 1) to places)

-- places from one on with which the kept parts contradict each other
pub record IsCore (parts : List (List Claim)) (names : List WordId) (kept : List ℕ) (from : ℕ) (core : Core) : Type 0 where
  pub shut : IsShut (stated_at parts (kept ++ core.chosen)) names core.closed
  pub between : AreBetween from (length parts) core.chosen

-- of each kept place an interpretation is a model of the others with the rest
abbrev pub AreShown : List (List Claim) → List ℕ → List ℕ → List Interpretation → Type 0
AreShown parts kept rest shown = AllZip (λ place i. IsFiniteModel i (stated_at parts (without place kept ++ rest))) kept shown

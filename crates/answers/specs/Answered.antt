-- What answers to a class say.
use Rattle.std.specs.Prelude.{ℕ, List, [], ◌∷◌, ◌++◌, IsTrue}
use Rattle.wiki_base.specs.declared.numbers.WordId.{WordId}
use Rattle.logic_terms.specs.Concept.{Concept, Claim, ClassAssertion}
use Rattle.logic_terms.specs.Complement.{complement}
use Rattle.logic_terms.specs.Interpretation.{Interpretation, is_interpretation, element_of}
use Rattle.logic_terms.specs.Reading.{IsIn, IsModel}
use Rattle.logic_terms.specs.Theory.{Theory}
use Rattle.absorb.specs.Absorbed.{IsAbsorbed}
use Rattle.tableau_rules.specs.Searching.{IsLonger}

-- the axioms with the name's membership in the complement of a class, in negation normal form
abbrev pub denied : List Claim → Concept → WordId → List Claim
denied claims c name = claims ++ ClassAssertion (complement c) name ∷ []

-- the name is in the class in every finite model
abbrev pub IsInAll : List Claim → Concept → WordId → Type 0
IsInAll claims c name = (i : Interpretation) → IsTrue (is_interpretation i) → IsModel i claims → IsIn i c (element_of i name)

-- the name is outside the class in some finite model
abbrev pub IsOutsideSome : List Claim → Concept → WordId → Type 0
IsOutsideSome claims c name = (i : Interpretation) × IsTrue (is_interpretation i) × IsModel i claims × ¬ IsIn i c (element_of i name)

-- the search over the absorbed knowledge of the axioms with the denial has not ended after `budget` rule applications
pub record IsUnknown (claims : List Claim) (names : List WordId) (budget : ℕ) (c : Concept) (name : WordId) : Type 0 where
  pub knowledge : Theory
  pub absorbed : IsAbsorbed (denied claims c name) names knowledge
  pub longer : IsLonger knowledge budget

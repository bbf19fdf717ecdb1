-- When a budget counts as spent: the tableau's count, which the plain wiki is told.
use Rattle.std.specs.Prelude.{ℕ, List}
use Rattle.wiki_base.specs.declared.numbers.WordId.{WordId}
use Rattle.logic_terms.specs.Concept.{Claim}
use Rattle.logic_terms.specs.Theory.{Theory}
use Rattle.absorb.specs.Absorbed.{IsAbsorbed}
use Rattle.tableau_rules.specs.Searching.{IsLonger}

-- the systematic search over the axioms, absorbed with these names, has not ended after so many rule applications
pub record IsCutOff (budget : ℕ) (claims : List Claim) (names : List WordId) : Type 0 where
  pub knowledge : Theory
  pub absorbed : IsAbsorbed claims names knowledge
  pub longer : IsLonger knowledge budget

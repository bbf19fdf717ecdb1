-- What verdicts say.
use Rattle.std.specs.Prelude.{ℕ, ◌<◌, List, IsTrue}
use Rattle.wiki_base.specs.declared.numbers.WordId.{WordId}
use Rattle.logic_terms.specs.Concept.{Claim}
use Rattle.logic_terms.specs.Interpretation.{Interpretation, is_interpretation}
use Rattle.logic_terms.specs.Reading.{IsModel}
use Rattle.logic_terms.specs.Theory.{Theory}
use Rattle.absorb.specs.Absorbed.{IsAbsorbed}
use Rattle.tableau_rules.specs.Graph.{Graph}
use Rattle.tableau_rules.specs.Trees.{Tree, is_closed}
use Rattle.tableau_bounds.specs.Enough.{enough, enough_without_choices, enough_without_new_nodes}
use Rattle.tableau_bounds.specs.Fragments.{is_without_unions, is_without_existentials}
use Rattle.tableau.specs.Ends.{IsCutAt}
pub use Rattle.tableau.specs.declared.verdict.Verdict.{Verdict}
pub use Rattle.tableau.specs.declared.verdict.Verdict.TheVariants.{Consistent, Inconsistent, Spent}
pub use Rattle.tableau.specs.Ends.{IfConsistent, IfInconsistent, IfSpent}

-- a finite interpretation is a model of these axioms, and no finite interpretation is
abbrev pub IsFiniteModel : Interpretation → List Claim → Type 0
IsFiniteModel i claims = IsTrue (is_interpretation i) × IsModel i claims

abbrev pub HaveNoModel : List Claim → Type 0
HaveNoModel claims = (i : Interpretation) → ¬ IsFiniteModel i claims

-- the tree is a closed one of the absorbed knowledge of these axioms and names
pub record ClosesAll (claims : List Claim) (names : List WordId) (tree : Tree) : Type 0 where
  pub knowledge : Theory
  pub absorbed : IsAbsorbed claims names knowledge
  pub closed : IsTrue (is_closed knowledge tree)

-- the search over the absorbed knowledge of these axioms and names has not ended after `budget` rule applications, the
-- last of which made this branch
pub record SpendsAll (claims : List Claim) (names : List WordId) (budget : ℕ) (g : Graph) : Type 0 where
  pub knowledge : Theory
  pub absorbed : IsAbsorbed claims names knowledge
  pub cut : IsCutAt knowledge budget g

-- a budget is below the bound that always ends the search over the absorbed knowledge of these axioms and names
pub record IsBelowEnough (claims : List Claim) (names : List WordId) (budget : ℕ) : Type 0 where
  pub knowledge : Theory
  pub absorbed : IsAbsorbed claims names knowledge
  pub below : budget < enough knowledge

-- where the absorbed knowledge has no unions, a budget is below the bound that ends the search over it
pub record IsBelowWithoutChoices (claims : List Claim) (names : List WordId) (budget : ℕ) : Type 0 where
  pub below : (k : Theory) → IsAbsorbed claims names k → IsTrue (is_without_unions k) → budget < enough_without_choices k

-- and where it has no existential restrictions either, below the one that ends that search
pub record IsBelowWithoutNewNodes (claims : List Claim) (names : List WordId) (budget : ℕ) : Type 0 where
  pub below : (k : Theory) → IsAbsorbed claims names k → IsTrue (is_without_unions k) → IsTrue (is_without_existentials k)
      → budget < enough_without_new_nodes k

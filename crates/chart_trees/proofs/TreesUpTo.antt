-- The least trees that the rules up to a number give.
use Rattle.std.specs.Prelude.{◌≡◌, ℕ, ◌≤◌, List, Some}
use Rattle.scopes.specs.declared.agreement.Test.{Test}
use Rattle.derivation_trees.specs.Trees.{Node}
use Rattle.derivation_trees.specs.Settings.{Setting}
use Rattle.derivation_trees.specs.Derives.{At, phrase_of}
use Rattle.derivations.specs.Among.{Among}
use Rattle.chart_trees.specs.declared.outcomes.Outcome.{Outcome}
use Rattle.chart_trees.specs.Order.{node_code}
use Rattle.chart_trees.specs.Outcomes.{IsOutcome, Covers, IsOfRule}

-- the least trees for a category with the rules up to this number
pub record HasTreesUpTo (s : Setting) (asked : Test) (at : At) (count : ℕ) (outcomes : List Outcome) : Type 0 where
  pub sound : (o : Outcome) → Among outcomes o → IsOutcome s asked at o
  pub least : (number : ℕ) (n : Node) (end : At) → number ≤ count → IsOfRule number n → phrase_of s n asked at ≡ Some end
      → Covers outcomes at.list end (node_code n)

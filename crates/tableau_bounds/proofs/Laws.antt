-- The bounds for plain knowledge.
use Rattle.std.proofs.Common.{ℕ, ◌<◌, ◌≤◌, length, arith}
use Rattle.std.specs.Prelude.{IsTrue}
use Rattle.logic_terms.specs.Plain.{is_plain_theory}
use Rattle.logic_terms.specs.Theory.{Theory}
use Rattle.tableau_rules.specs.Graph.{Graph}
use Rattle.tableau_rules.specs.Branches.{IsBranch}
use Rattle.tableau_rules.specs.Searching.{IsLonger}
use Rattle.tableau_bounds.specs.Enough.{most_nodes, enough}
use Rattle.tableau_bounds.proofs.Plain.{unions_have_members}
use Rattle.tableau_bounds.proofs.Ends.{branch_bounded, bounded_nodes, longer_than_enough}

pub nodes_bounded : (k : Theory) → IsTrue (is_plain_theory k) → (g : Graph) → IsBranch k g → length g.nodes ≤ most_nodes k
nodes_bounded k plain g branch = bounded_nodes k g (branch_bounded k (unions_have_members k plain) g branch)

pub search_bounded : (k : Theory) → IsTrue (is_plain_theory k) → (n : ℕ) → IsLonger k n → n < enough k
search_bounded k plain n longer = longer_than_enough k (unions_have_members k plain) n longer

pub search_ends : (k : Theory) → IsTrue (is_plain_theory k) → (n : ℕ) → enough k ≤ n → IsLonger k n → ⊥
search_ends k plain n le longer = never n (enough k) (search_bounded k plain n longer) le
  where
    never : (a b : ℕ) → a < b → b ≤ a → ⊥
    never a b lt le = omega arith

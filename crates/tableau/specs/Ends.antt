-- How a search may end, and what a verdict carries.
use Rattle.std.specs.Prelude.{ℕ, ◌≡◌, Some, IsTrue}
use Rattle.logic_terms.specs.Theory.{Theory}
use Rattle.tableau_rules.specs.declared.branch.Branch.{Branch}
use Rattle.tableau_rules.specs.declared.step.Closed.{Closed}
use Rattle.tableau_rules.specs.Graph.{Graph}
use Rattle.tableau_rules.specs.Branches.{IsBranch, is_finished}
use Rattle.tableau_rules.specs.Searching.{Searching, searched, IsLonger}
use Rattle.tableau.specs.declared.verdict.Verdict.{Verdict}
use Rattle.tableau.specs.declared.verdict.Verdict.TheVariants.{Consistent, Inconsistent, Spent}

-- facts of what one kind of verdict carries
abbrev pub IfConsistent : {T : Type 0} → Verdict T → (T → Type 0) → Type 0
IfConsistent (Consistent shown) P = P shown
IfConsistent (Inconsistent tree) P = Unit {0}
IfConsistent (Spent b) P = Unit {0}

abbrev pub IfInconsistent : {T : Type 0} → Verdict T → (Closed → Type 0) → Type 0
IfInconsistent (Consistent shown) P = Unit {0}
IfInconsistent (Inconsistent tree) P = P tree
IfInconsistent (Spent b) P = Unit {0}

abbrev pub IfSpent : {T : Type 0} → Verdict T → (Branch → Type 0) → Type 0
IfSpent (Consistent shown) P = Unit {0}
IfSpent (Inconsistent tree) P = Unit {0}
IfSpent (Spent b) P = P b

-- a branch of the knowledge at which a search ends: no clash is there, and no step applies
pub record IsEnd (k : Theory) (g : Graph) : Type 0 where
  pub branch : IsBranch k g
  pub finished : IsTrue (is_finished k g)

-- the search has not ended after so many rule applications, the last of which made this branch
pub record IsCutAt (k : Theory) (count : ℕ) (g : Graph) : Type 0 where
  pub longer : IsLonger k count
  pub last : (s : Searching) × (searched k count ≡ Some s) × (s.graph ≡ g)

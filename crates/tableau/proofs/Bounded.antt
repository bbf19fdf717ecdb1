-- What a spent budget says of its knowledge.
use Rattle.std.specs.Prelude.{ℕ, IfOk}
use Rattle.std.specs.declared.result.Result.{Result}
use Rattle.std.specs.declared.result.Result.TheVariants.{Ok, Err}
use Rattle.logic_terms.specs.Theory.{Theory}
use Rattle.tableau_rules.specs.Searching.{IsLonger}
use Rattle.tableau_rules.specs.Shown.{graph_of}
use Rattle.tableau.specs.declared.verdict.Verdict.{Verdict}
use Rattle.tableau.specs.declared.verdict.Verdict.TheVariants.{Consistent, Inconsistent, Spent}
use Rattle.tableau.specs.Ends.{IfSpent, IsCutAt}

spent_says : {T P : Type 0} (k : Theory) (budget : ℕ) (v : Verdict T) → (IsLonger k budget → P) → IfSpent v (λ b. IsCutAt k budget (graph_of b))
    → IfSpent v (λ _. P)
spent_says k budget (Consistent shown) says h = tt
spent_says k budget (Inconsistent tree) says h = tt
spent_says k budget (Spent b) says h = says h.longer

pub spent_result : {T E P : Type 0} (k : Theory) (budget : ℕ) (r : Result (Verdict T) E) → (IsLonger k budget → P)
    → IfOk r (λ v. IfSpent v (λ b. IsCutAt k budget (graph_of b))) → IfOk r (λ v. IfSpent v (λ _. P))
spent_result k budget (Ok v) says h = spent_says k budget v says h
spent_result k budget (Err e) says h = tt

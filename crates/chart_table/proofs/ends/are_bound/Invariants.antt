use Rattle.std.proofs.Common.{◌≡◌, List, [], ◌∷◌, take}
use Rattle.codeco_terms.specs.declared.values.Value.{Value}
use Rattle.codeco_terms.specs.declared.values.Term.{Term}
use Rattle.chart_table.specs.Branches.{closing}
use Rattle.chart_table.specs.Ends.{as_terms}
use Rattle.chart_table.proofs.ends.are_bound.Given as goal

abbrev pub invariant-loop-number : goal.invariant-loop-number
invariant-loop-number l = (choices : Term → List Value) → closing choices (as_terms (take l.number-index l.numbers)) (l.bound ∷ []) ≡ l.bound ∷ []

use Rattle.std.proofs.Common.{◌≡◌, false, take, map}
use Rattle.std.specs.List.{list_any}
use Rattle.logic_terms.specs.Same.{same_concept}
use Rattle.logic_terms.specs.Shown.{concept_of}
use Rattle.tableau_rules.specs.Carrying.{along}
use Rattle.tableau_rules.proofs.carrying.has_along.Given as goal

abbrev pub invariant-loop-own : goal.invariant-loop-own
invariant-loop-own l = list_any (λ d. same_concept d (along l.role (concept_of l.class))) (take l.own-index (map concept_of l.label)) ≡ false

use Rattle.std.proofs.Common.{◌≡◌, false, take}
use Rattle.std.specs.List.{list_any}
use Rattle.logic_terms.specs.Known.{theory_of}
use Rattle.tableau_rules.specs.Clashes.{are_joined}
use Rattle.tableau_rules.proofs.clashes.clash_of_names.Given as goal

abbrev pub invariant-loop-pair : goal.invariant-loop-pair
invariant-loop-pair l = list_any (λ d. are_joined (theory_of l.k) d.0 d.1) (take l.pair-index l.pair-items) ≡ false

use Rattle.std.proofs.Common.{◌≡◌, map, take}
use Rattle.logic_terms.specs.Known.{theory_of, stated}
use Rattle.logic_terms.specs.Theory.{representative}
use Rattle.tableau_rules.proofs.starting.owners.Given as goal

abbrev pub invariant-loop-entry : goal.invariant-loop-entry
invariant-loop-entry l = l.owners.items ≡ map (λ e. representative (theory_of l.k) e.0) (stated (take l.entry-index l.entry-items))

use Rattle.std.proofs.Common.{◌≡◌, map, take}
use Rattle.logic_terms.specs.Known.{theory_of}
use Rattle.branch_model.specs.Named.{element_named}
use Rattle.branch_model.proofs.making.name_elements.Given as goal

abbrev pub invariant-loop-entry : goal.invariant-loop-entry
invariant-loop-entry l = l.made.items ≡ map (λ e. (e.0, element_named (theory_of l.k) l.stands e.0)) (take l.entry-index l.entry-items)

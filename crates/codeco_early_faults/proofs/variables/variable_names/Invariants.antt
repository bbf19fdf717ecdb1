use Rattle.std.proofs.Common.{◌≡◌, drop}
use Rattle.std.specs.List.{flat_map}
use Rattle.codeco_numbering.specs.Numbered.{gathered}
use Rattle.codeco_early_faults.specs.Early.{element_variables}
use Rattle.codeco_early_faults.proofs.variables.variable_names.Given as goal

abbrev pub invariant-loop-element : goal.invariant-loop-element
invariant-loop-element l = gathered l.names (flat_map element_variables (drop l.element-index l.element-items))
    ≡ gathered l.initial.names (flat_map element_variables l.element-items)

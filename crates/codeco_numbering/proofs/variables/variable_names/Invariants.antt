use Rattle.std.proofs.Common.{◌≡◌, drop}
use Rattle.std.specs.Prelude.{flat_map}
use Rattle.codeco_numbering.specs.Numbered.{gathered, element_names}
use Rattle.codeco_numbering.proofs.variables.variable_names.Given as goal

abbrev pub invariant-loop-element : goal.invariant-loop-element
invariant-loop-element l = gathered l.names (flat_map (element_names l.features) (drop l.element-index l.element-items))
    ≡ gathered l.initial.names (flat_map (element_names l.features) l.element-items)

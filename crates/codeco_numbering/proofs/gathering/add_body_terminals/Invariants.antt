use Rattle.std.proofs.Common.{◌≡◌, drop}
use Rattle.std.specs.Prelude.{flat_map}
use Rattle.codeco_numbering.specs.Numbered.{gathered, written_terminals}
use Rattle.codeco_numbering.proofs.gathering.add_body_terminals.Given as goal

abbrev pub invariant-loop-element : goal.invariant-loop-element
invariant-loop-element l = gathered l.names (flat_map written_terminals (drop l.element-index l.element-items))
    ≡ gathered l.initial.names (flat_map written_terminals l.element-items)

use Rattle.std.proofs.Common.{◌≡◌, take, map}
use Rattle.codeco_numbering.specs.Numbered.{numbered_element}
use Rattle.codeco_numbering.proofs.tables.Tables.elements.Given as goal

abbrev pub invariant-loop-element : goal.invariant-loop-element
invariant-loop-element l = l.elements ≡ map (numbered_element l.self) (take l.element-index l.element-items)

use Rattle.std.proofs.Common.{◌≡◌, map, take}
use Rattle.ace_grammar.specs.Rows.{element_of}
use Rattle.ace_grammar.proofs.rows.elements.Given as goal

abbrev pub invariant-loop-row : goal.invariant-loop-row
invariant-loop-row l = l.made ≡ map element_of (take l.row-index l.rows)

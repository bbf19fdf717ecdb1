use Rattle.std.proofs.Common.{◌≡◌, map, take}
use Rattle.ace_grammar.specs.Rows.{pattern_of}
use Rattle.ace_grammar.proofs.rows.patterns.Given as goal

abbrev pub invariant-loop-row : goal.invariant-loop-row
invariant-loop-row l = l.made ≡ map pattern_of (take l.row-index l.rows)

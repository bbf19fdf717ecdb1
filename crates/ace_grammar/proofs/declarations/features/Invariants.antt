use Rattle.std.proofs.Common.{◌≡◌, map, take}
use Rattle.ace_grammar.specs.Rows.{feature_of}
use Rattle.ace_grammar.proofs.declarations.features.Given as goal

abbrev pub invariant-loop-row : goal.invariant-loop-row
invariant-loop-row l = l.made ≡ map feature_of (take l.row-index l.rows)

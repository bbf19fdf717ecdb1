use Rattle.std.proofs.Common.{◌≡◌, ◌++◌, map, take}
use Rattle.ace_grammar.specs.Rows.{rule_of}
use Rattle.ace_grammar.proofs.rows.add_rules.Given as goal

abbrev pub invariant-loop-row : goal.invariant-loop-row
invariant-loop-row l = l.rules ≡ l.initial.rules ++ map rule_of (take l.row-index l.rows)

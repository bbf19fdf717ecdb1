use Rattle.std.proofs.Common.{◌≡◌, take, ◌++◌}
use Rattle.std.specs.List.{flat_map}
use Rattle.chart_table.specs.Choices.{pattern_terms}
use Rattle.chart_table.proofs.choices.push_patterns.Given as goal

abbrev pub invariant-loop-pattern : goal.invariant-loop-pattern
invariant-loop-pattern l = l.out ≡ l.fn.out ++ flat_map pattern_terms (take l.pattern-index l.patterns)

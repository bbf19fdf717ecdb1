use Rattle.std.proofs.Common.{◌≡◌, ◌++◌, drop}
use Rattle.std.specs.List.{flat_map}
use Rattle.codeco_late_faults.specs.Writing.{pattern_feats}
use Rattle.codeco_late_faults.proofs.writing.push_patterns.Given as goal

abbrev pub invariant-loop-pattern : goal.invariant-loop-pattern
invariant-loop-pattern l = l.feats.items ++ flat_map pattern_feats (drop l.pattern-index l.patterns)
    ≡ l.initial.feats.items ++ flat_map pattern_feats l.patterns

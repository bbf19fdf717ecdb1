use Rattle.std.proofs.Common.{◌≡◌, ℕ, ◌+◌, ◌*◌, [], ◌∷◌, ◌++◌, take, drop, map}
use Rattle.derivations.specs.Enumeration as enumeration
use Rattle.std.specs.List.{flat_map, range_with_len}
use Rattle.derivations.proofs.choices.push_patterns.Given as goal

abbrev pub invariant-loop-pattern : goal.invariant-loop-pattern
invariant-loop-pattern l =
    l.out ≡ l.initial.out ++ flat_map enumeration.pattern_terms (take l.pattern-index l.patterns)

use Rattle.std.proofs.Common.{◌≡◌, ltb, drop, length}
use Rattle.std.specs.List.{flat_map}
use Rattle.codeco_early_faults.specs.Early.{written_patterns}
use Rattle.codeco_early_faults.proofs.rules.has_many_patterns.Given as goal

abbrev pub invariant-loop-element : goal.invariant-loop-element
invariant-loop-element l = ltb l.left (length (flat_map written_patterns (drop l.element-index l.body))) ≡ ltb 16 (length (flat_map written_patterns l.body))

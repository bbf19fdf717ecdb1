use Rattle.std.proofs.Common.{◌≡◌, ltb, drop, length}
use Rattle.std.specs.List.{list_any, flat_map}
use Rattle.codeco_numbering.specs.Numbered.{written_terminals}
use Rattle.codeco_early_faults.proofs.rules.has_long_terminal.Given as goal

abbrev pub invariant-loop-element : goal.invariant-loop-element
invariant-loop-element l = list_any (λ w. ltb 64 (length w)) (flat_map written_terminals (drop l.element-index l.body))
    ≡ list_any (λ w. ltb 64 (length w)) (flat_map written_terminals l.body)

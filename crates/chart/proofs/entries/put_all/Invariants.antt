use Rattle.std.proofs.Common.{◌≡◌, true, drop, map}
use Rattle.derivations.specs.Entries.{shown, all_tried, IsInOrder}
use Rattle.chart.proofs.entries.put_all.Given as goal

abbrev pub invariant-loop-entry : goal.invariant-loop-entry
invariant-loop-entry l = record {
  ordered : IsInOrder (map shown l.entries.items);
  gathered : all_tried (λ e. true) (map shown (drop l.entry-index l.found)) (map shown l.entries.items)
      ≡ all_tried (λ e. true) (map shown l.found) (map shown l.initial.entries.items);
}

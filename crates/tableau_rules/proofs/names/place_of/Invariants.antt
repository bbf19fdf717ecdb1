use Rattle.std.proofs.Common.{◌≡◌, ◌+◌, ◌≤◌, drop}
use Rattle.std.specs.Option.{option_map}
use Rattle.logic_terms.specs.Known.{theory_of}
use Rattle.tableau_rules.specs.Neighbours.{roots, roots_in, place_in}
use Rattle.tableau_rules.proofs.names.place_of.Given as goal

abbrev pub invariant-loop-entry : goal.invariant-loop-entry
invariant-loop-entry l = record {
  low : l.place ≤ l.entry-index;
  left_decides : place_in (roots (theory_of l.k)) l.root ≡ option_map (λ n. l.place + n) (place_in (roots_in (drop l.entry-index l.entry-items)) l.root);
}

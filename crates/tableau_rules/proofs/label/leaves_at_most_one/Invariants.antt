use Rattle.std.proofs.Common.{◌≡◌, ◌≤◌, take, map, length}
use Rattle.logic_terms.specs.Shown.{concept_of}
use Rattle.tableau_rules.specs.Rules.{open_members}
use Rattle.tableau_rules.proofs.label.leaves_at_most_one.Given as goal

abbrev pub invariant-loop-class : goal.invariant-loop-class
invariant-loop-class l = record {
  low : l.open ≤ l.class-index;
  counted : l.open ≡ length (open_members (map concept_of l.label) (take l.class-index (map concept_of l.members)));
}

use Rattle.std.proofs.Common.{◌≡◌, ◌≤◌, true, length, take}
use Rattle.std.specs.List.{list_all}
use Rattle.logic_terms.specs.Shown.{concepts_of}
use Rattle.reasoner_examples.specs.Fit.{is_fit}
use Rattle.reasoner_examples.proofs.fitting.+fitting.Given as goal

abbrev pub invariant-members_fit-loop-place : goal.invariant-members_fit-loop-place
invariant-members_fit-loop-place l = record {
  many : 2 ≤ length (concepts_of l.members);
  so_far : list_all (is_fit l.names) (take l.place (concepts_of l.members)) ≡ true;
}

use Rattle.std.proofs.Common.{◌≡◌, ℕ, false, length, take}
use Rattle.std.specs.Prelude.{slice_index_or}
use Rattle.codeco_checked.specs.Labels.{is_mark_in}
use Rattle.codeco_labels.proofs.misfits.marks_of.Given as goal

abbrev pub invariant-loop-rule : goal.invariant-loop-rule
invariant-loop-rule l = record {
  size : length l.marks.items ≡ l.size;
  marks : (name : ℕ) → slice_index_or l.marks.items name false ≡ is_mark_in (take l.rule-index l.rules) name;
}

use Rattle.std.proofs.Common.{◌≡◌, ℕ, ◌<◌, length, get_or}
use Rattle.std.specs.Prelude.{slice_index, slice_index_or, false}
use Rattle.codeco_labels.specs.declared.allowed.Allowed.TheVariants.{Nothing}
use Rattle.codeco_labels.specs.Kinds.{of_mark}
use Rattle.codeco_labels.proofs.kind_table.KindTable.new.Given as goal

abbrev pub invariant-loop-category : goal.invariant-loop-category
invariant-loop-category l = record {
  size : length l.groups.items ≡ l.category;
  sizes : length l.allowed.items ≡ l.category;
  own : (c : ℕ) → c < l.category → slice_index l.groups.items c ≡ c;
  marks : (c : ℕ) → c < l.category → slice_index_or l.allowed.items c Nothing ≡ of_mark (slice_index_or l.marks c false);
}

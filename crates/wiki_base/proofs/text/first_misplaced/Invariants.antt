use Rattle.std.proofs.Common.{◌≡◌, ◌+◌, false, option_map, length}
use Rattle.std.specs.Str.{chars, IsUtf8}
use Rattle.std.specs.Str.Iter.{chars_rest}
use Rattle.wiki_base.specs.Text.{misplaced}
use Rattle.wiki_base.proofs.text.first_misplaced.Given as goal

abbrev pub invariant-loop-c : goal.invariant-loop-c
invariant-loop-c l = record {
  utf8 : IsUtf8 (chars_rest l.chars);
  left_decides : misplaced false (chars l.s) ≡ option_map (λ n. l.place + n) (misplaced l.after_letter (chars (chars_rest l.chars)));
  all : l.place + length (chars_rest l.chars) ≡ length l.s;
}

abbrev pub decreases-loop-c : goal.decreases-loop-c
decreases-loop-c l = length (chars_rest l.chars)

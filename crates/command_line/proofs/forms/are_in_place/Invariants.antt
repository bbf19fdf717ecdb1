use Rattle.std.proofs.Common.{◌≡◌, false, length}
use Rattle.std.specs.Str.{IsUtf8}
use Rattle.std.specs.Str.Iter.{chars_rest}
use Rattle.command_line.proofs.FormLemmas.{all_fit}
use Rattle.command_line.proofs.forms.are_in_place.Given as goal

-- what is left decides
abbrev pub invariant-loop-c : goal.invariant-loop-c
invariant-loop-c l = record {
  utf8 : IsUtf8 (chars_rest l.chars);
  left_decides : all_fit false l.text ≡ all_fit l.after_letter (chars_rest l.chars);
}

abbrev pub decreases-loop-c : goal.decreases-loop-c
decreases-loop-c l = length (chars_rest l.chars)

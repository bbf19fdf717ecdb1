use Rattle.std.proofs.Common.{◌≡◌, ◌++◌}
use Rattle.std.specs.List.{flat_map}
use Rattle.std.specs.Str.{chars, IsUtf8}
use Rattle.std.specs.Str.Iter.{chars_rest}
use Rattle.std.specs.String.{string_bytes}
use Rattle.pages.specs.Html.{escaped, escaped_char}
use Rattle.pages.proofs.html.push_characters.Given as goal

abbrev pub invariant-loop-c : goal.invariant-loop-c
invariant-loop-c l = record {
  utf8 : IsUtf8 (chars_rest l.c-iterator);
  left_decides : string_bytes l.page ++ flat_map escaped_char (chars (chars_rest l.c-iterator)) ≡ string_bytes l.fn.page ++ escaped l.text;
}

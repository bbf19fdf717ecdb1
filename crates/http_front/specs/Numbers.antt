-- Numbers in decimal digits.
use Rattle.std.specs.Prelude.{ℕ, Bool, List, length, Option, Some, None, option_and_then, if◌then◌else◌, ◌&&◌, ◌==◌, not, nat_le}
use Rattle.std.specs.List.{list_all}
use Rattle.std.specs.Char.{is_ascii_digit}
use Rattle.std.specs.Str.Parse.{digits_value}
use Rattle.lexicon.specs.declared.words.TheConstants.{LAST_NUMBER}

-- these bytes are digits, at least one and at most so many
abbrev pub are_digits : ℕ → List ℕ → Bool
are_digits most bytes = not (length bytes == 0) && (nat_le (length bytes) most && list_all is_ascii_digit bytes)

-- the number that at most so many digits write; leading zeros count as digits
unfoldable pub number_of : ℕ → List ℕ → Option ℕ
number_of most bytes = if are_digits most bytes then Some (digits_value 10 bytes) else None

-- the number of a path or a form: 1 to 10 digits, up to 4294967295
unfoldable pub short_number : List ℕ → Option ℕ
short_number bytes = option_and_then (λ n. if nat_le n LAST_NUMBER then Some n else None) (number_of 10 bytes)

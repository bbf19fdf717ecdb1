-- Digits as the parser of numbers sees them.
use Rattle.std.proofs.Common.{◌≡◌, ℕ, ◌<◌, ◌≤◌, ◌^◌, List, [], ◌∷◌, true, false, ◌&&◌, length, drop, refl, sym, subst, ap, ◌∙◌, arith, None, Some, Result, Ok, Err}
use Rattle.std.specs.Prelude.{IsUtf8, ◌==◌, cond, if◌then◌else◌, nat_le, not}
use Rattle.std.specs.Result.{result_ok}
use Rattle.std.specs.List.{list_all}
use Rattle.http_front.specs.Numbers.{are_digits, number_of}
use Rattle.std.specs.Char.{is_ascii_digit, digit_value}
use Rattle.std.specs.Str.Parse.{AllDigits, IsNumeral, digits_value, without_leading_plus, ParsesUnsigned}
use Rattle.std.proofs.lemmas.Bool.Decides.{nat_tests}
use Rattle.std.proofs.lemmas.Str.{IsUtf8-from_ascii}
use Rattle.std.proofs.lemmas.Str.Parse.{digits_value_short, numerals_by_value, tells_digits}
use Rattle.std.proofs.lemmas.Fmt.{IsAscii-from_digits}
use Rattle.std.proofs.lemmas.Bool.{and_parts, leb-true}

digit_below : (b : ℕ) → is_ascii_digit b ≡ true → digit_value b < 10
digit_below b h = grind (arith, nat_tests)

all_digits : (bytes : List ℕ) → list_all is_ascii_digit bytes ≡ true → AllDigits 10 bytes
all_digits [] h = tt
all_digits (b ∷ bytes) h =
    let parts = and_parts (is_ascii_digit b) (list_all is_ascii_digit bytes) h in
    (digit_below b parts.0, all_digits bytes parts.1)

digits_utf8 : (bytes : List ℕ) → list_all is_ascii_digit bytes ≡ true → IsUtf8 bytes
digits_utf8 bytes h = IsUtf8-from_ascii bytes (IsAscii-from_digits bytes (all_digits bytes h))

not_plus : (b : ℕ) → is_ascii_digit b ≡ true → (b == 43) ≡ false
not_plus b h = grind (arith, nat_tests)

no_plus : (bytes : List ℕ) → list_all is_ascii_digit bytes ≡ true → without_leading_plus bytes ≡ bytes
no_plus [] h = refl
no_plus (b ∷ bytes) h = ap (λ c. drop (cond c 1 0) (b ∷ bytes)) (not_plus b (and_parts (is_ascii_digit b) (list_all is_ascii_digit bytes) h).0)

digits_fit : (bytes : List ℕ) → list_all is_ascii_digit bytes ≡ true → length bytes ≤ 19 → digits_value 10 bytes < 2 ^ 64
digits_fit bytes h short =
    let below = digits_value_short (numerals_by_value (AllDigits 10) tells_digits) bytes 19 (all_digits bytes h) short in
    omega (arith, below)

record Digits (most : ℕ) (bytes : List ℕ) : Type 0 where
  some : 0 < length bytes
  few : length bytes ≤ most
  all : list_all is_ascii_digit bytes ≡ true

some_byte : (n : ℕ) → not (n == 0) ≡ true → 0 < n
some_byte n h = grind (arith, nat_tests)

digits_of : (most : ℕ) (bytes : List ℕ) → are_digits most bytes ≡ true → Digits most bytes
digits_of most bytes digits =
    let first = and_parts (not (length bytes == 0)) (nat_le (length bytes) most && list_all is_ascii_digit bytes) digits in
    let rest = and_parts (nat_le (length bytes) most) (list_all is_ascii_digit bytes) first.1 in
    record { some = some_byte (length bytes) first.0; few = leb-true (length bytes) most rest.0; all = rest.1 }

pub digits_are_utf8 : (most : ℕ) (bytes : List ℕ) → are_digits most bytes ≡ true → IsUtf8 bytes
digits_are_utf8 most bytes digits = digits_utf8 bytes (digits_of most bytes digits).all

parsed_by : {E : Type 0} (most : ℕ) (bytes : List ℕ) (r : Result ℕ E) → Digits most bytes → most ≤ 19 → ParsesUnsigned 64 10 bytes r
    → result_ok r ≡ Some (digits_value 10 bytes)
parsed_by most bytes (Ok n) digits few p = ap Some (p.1 ∙ ap (digits_value 10) (no_plus bytes digits.all))
parsed_by most bytes (Err e) digits few p =
    let short : length bytes ≤ 19 = omega (arith, digits.few, few) in
    absurd (p (subst (λ bs. IsNumeral 10 bs × (digits_value 10 bs < 2 ^ 64)) (sym (no_plus bytes digits.all))
    ((digits.some, all_digits bytes digits.all), digits_fit bytes digits.all short)))

-- what the parser of numbers says of digits
pub parsed : {E : Type 0} (most : ℕ) (bytes text : List ℕ) (r : Result ℕ E) → are_digits most bytes ≡ true → most ≤ 19 → text ≡ bytes
    → ParsesUnsigned 64 10 text r → result_ok r ≡ number_of most bytes
unfolding number_of
parsed most bytes text r digits few same p =
    parsed_by most bytes r (digits_of most bytes digits) few (subst (λ bs. ParsesUnsigned 64 10 bs r) same p)
    ∙ sym (ap (λ b. if b then Some (digits_value 10 bytes) else None) digits)

-- The newest entries of one list after another.
use Rattle.std.proofs.Common.{◌≡◌, ℕ, ◌+◌, ◌-◌, ◌≤◌, List, [], ◌++◌, sym, ap, ◌∙◌, length, drop, arith, length-append}
use Rattle.std.proofs.lemmas.List.{drop-append-le, drop_all}
use Rattle.std.proofs.Math.Seq.{drop-append-add}
use Rattle.scopes.specs.declared.entries.Entry.{Entry}
use Rattle.scopes.specs.AccessList.{newest_of}

-- all of them come from the newer list
pub newest_within : (older newer all : List Entry) (count : ℕ) → all ≡ older ++ newer → count ≤ length newer → newest_of count newer ≡ newest_of count all
newest_within older newer all count is fits =
    let at : length all - count ≡ length older + (length newer - count) = omega (arith, ap length is, length-append older newer, fits) in
    sym (ap (λ xs. drop (length all - count) xs) is ∙ ap (λ k. drop k (older ++ newer)) at ∙ drop-append-add older newer (length newer - count))

-- the newer list is among them
pub newest_past : (older newer all : List Entry) (count rest : ℕ) → all ≡ older ++ newer → length newer ≤ count → rest ≡ count - length newer
    → newest_of rest older ++ newer ≡ newest_of count all
newest_past older newer all count rest is fits left =
    let at : length all - count ≡ length older - rest = omega (arith, ap length is, length-append older newer, fits, left) in
    sym (ap (λ xs. drop (length all - count) xs) is ∙ ap (λ k. drop k (older ++ newer)) at
    ∙ drop-append-le (length older - rest) older newer (omega arith))

pub newest_all : (xs : List Entry) (count : ℕ) → count ≡ length xs → newest_of count xs ≡ xs
newest_all xs count is =
    let at : length xs - count ≡ 0 = omega (arith, is) in
    ap (λ k. drop k xs) at

pub newest_none : (xs : List Entry) (count : ℕ) → count ≡ 0 → newest_of count xs ≡ []
newest_none xs count is = drop_all (length xs - count) xs (omega (arith, is))

pub drop_past : (older newer all : List Entry) (first rest : ℕ) → all ≡ older ++ newer → length older + rest ≡ first → drop rest newer ≡ drop first all
drop_past older newer all first rest is at =
    sym (ap (λ xs. drop first xs) is ∙ ap (λ k. drop k (older ++ newer)) (sym at) ∙ drop-append-add older newer rest)

-- What is given of the bytes that were read, and what stays.
use Rattle.std.proofs.Common.{◌≡◌, ◌≢◌, ℕ, zero, suc, ◌+◌, ◌-◌, ◌<◌, ◌≤◌, List, [], ◌∷◌, ◌++◌, length, take, drop, Some, refl, subst, sym, ◌∙◌, ap, arith, map}
use Rattle.std.specs.List.{slice_get, slice_range}
use Rattle.std.proofs.Math.Seq.{take-add}
use Rattle.std.proofs.lemmas.List.{append_assoc, take-append-drop, drop_more, length-take, length-append, append-nil, take-take, drop-take, drop-drop}
use Rattle.std.proofs.lemmas.List.Edits.{length-between}
use Rattle.std.proofs.lemmas.List.Elements.{All-same, All-append}
use Rattle.std.proofs.lemmas.Option.{slice_get_within, slice_get_past, get_or_from_slice_get}
use Rattle.wiki_io.specs.Lines.{cut_lines, after_newline, HasNoNewline, InputLine, text, too_long, line_of, input_lines}
use Rattle.wiki_io.specs.declared.limits.TheConstants.{NEWLINE, MAX_LINE}
use Rattle.wiki_io.proofs.LineLemmas.{before_newline, cut_lines-line, cut_lines-last, cut_lines-begun, after_newline-part, line_of-short, line_of-long}

-- what was read is cut at a newline byte
split : (part : List ℕ) (n : ℕ) → slice_get part n ≡ Some NEWLINE → part ≡ take n part ++ NEWLINE ∷ drop (n + 1) part
split part n is =
    let within = slice_get_within part n NEWLINE is in
    let at = get_or_from_slice_get part n NEWLINE 0 is in
    sym (take-append-drop n part) ∙ ap (λ (l : List ℕ). take n part ++ l) (drop_more part n 0 within ∙ ap (λ (b : ℕ). b ∷ drop (n + 1) part) at)

split_before : (part rest : List ℕ) (n : ℕ) → slice_get part n ≡ Some NEWLINE → part ++ rest ≡ take n part ++ NEWLINE ∷ (drop (n + 1) part ++ rest)
split_before part rest n is = ap (λ (l : List ℕ). l ++ rest) (split part n is) ∙ append_assoc (take n part) (NEWLINE ∷ drop (n + 1) part) rest

-- a line ends at the first newline byte
pub input_lines-line : (part rest : List ℕ) (n : ℕ) → HasNoNewline (take n part) → slice_get part n ≡ Some NEWLINE → n < MAX_LINE
    → input_lines (part ++ rest) ≡ text (take n part) ∷ input_lines (drop (n + 1) part ++ rest)
input_lines-line part rest n none is short =
    let cut = ap cut_lines (split_before part rest n is) ∙ cut_lines-line (take n part) (drop (n + 1) part ++ rest) none in
    let small : length (take n part) < MAX_LINE = omega (arith, length-take n part) in
    ap (map line_of) cut ∙ ap (λ (l : InputLine). l ∷ input_lines (drop (n + 1) part ++ rest)) (line_of-short (take n part) small)

-- bytes that are no line yet, but too many for one
input_lines-begun : (front rest : List ℕ) → HasNoNewline front → 0 < length front → MAX_LINE ≤ length front
    → input_lines (front ++ rest) ≡ too_long ∷ input_lines (after_newline rest)
input_lines-begun [] rest none some long = absurd (omega arith)
input_lines-begun (b ∷ front) rest none some long =
    let more : MAX_LINE ≤ length ((b ∷ front) ++ before_newline rest) = omega (arith, length-append (b ∷ front) (before_newline rest)) in
    ap (map line_of) (cut_lines-begun b front rest none)
    ∙ ap (λ (l : InputLine). l ∷ input_lines (after_newline rest)) (line_of-long ((b ∷ front) ++ before_newline rest) more)

-- a line is too long by its first bytes
pub input_lines-too_long : (part rest : List ℕ) (n : ℕ) → HasNoNewline (take n part) → 0 < n → MAX_LINE ≤ n → n ≤ length part
    → input_lines (part ++ rest) ≡ too_long ∷ input_lines (after_newline (drop n part ++ rest))
input_lines-too_long part rest n none some long room =
    let size : length (take n part) ≡ n = omega (arith, length-take n part) in
    ap (λ (l : List ℕ). input_lines (l ++ rest)) (sym (take-append-drop n part)) ∙ ap input_lines (append_assoc (take n part) (drop n part) rest)
    ∙ input_lines-begun (take n part) (drop n part ++ rest) none (omega arith) (omega arith)

-- the rest of a line that is skipped ends at the first newline byte
pub after_newline-line : (part rest : List ℕ) (n : ℕ) → HasNoNewline (take n part) → slice_get part n ≡ Some NEWLINE
    → after_newline (part ++ rest) ≡ drop (n + 1) part ++ rest
after_newline-line part rest n none is =
    ap after_newline (split_before part rest n is) ∙ after_newline-part (take n part) (NEWLINE ∷ (drop (n + 1) part ++ rest)) none

-- the last line
pub input_lines-last : (part : List ℕ) → HasNoNewline part → length part < MAX_LINE → 0 < length part → input_lines (part ++ []) ≡ text part ∷ []
input_lines-last [] none short some = absurd (omega arith)
input_lines-last (b ∷ part) none short some =
    ap input_lines (append-nil (b ∷ part)) ∙ ap (map line_of) (cut_lines-last b part none)
    ∙ ap (λ (l : InputLine). l ∷ []) (line_of-short (b ∷ part) short)

-- Parts of a buffer, from a place to another.
pub take-part : (buffer : List ℕ) (start end n : ℕ) → start + n ≤ end → take n (slice_range buffer start end) ≡ take n (drop start buffer)
take-part buffer start end n le = take-take n (end - start) (drop start buffer) (omega arith)

pub drop-part : (buffer : List ℕ) (start end n : ℕ) → start + n ≤ end → drop n (slice_range buffer start end) ≡ slice_range buffer (start + n) end
drop-part buffer start end n le =
    let size : end - start ≡ n + (end - (start + n)) = omega arith in
    ap (λ (k : ℕ). drop n (take k (drop start buffer))) size ∙ drop-take n (end - (start + n)) (drop start buffer)
    ∙ ap (λ (l : List ℕ). take (end - (start + n)) l) (drop-drop n start buffer)

pub length-part : (buffer : List ℕ) (start end : ℕ) → end ≤ length buffer → length (slice_range buffer start end) ≡ end - start
length-part buffer start end le = length-between buffer start end le

-- two parts, one behind the other
pub no_newline-part : (buffer : List ℕ) (start mid end : ℕ) → start ≤ mid → mid ≤ end → end ≤ length buffer
    → HasNoNewline (slice_range buffer start mid) → HasNoNewline (slice_range buffer mid end) → HasNoNewline (slice_range buffer start end)
no_newline-part buffer start mid end low high room first second =
    let size : end - start ≡ (mid - start) + (end - mid) = omega arith in
    let back : start + (mid - start) ≡ mid = omega arith in
    let joined : slice_range buffer start end ≡ slice_range buffer start mid ++ slice_range buffer mid end =
    ap (λ (k : ℕ). take k (drop start buffer)) size ∙ take-add (mid - start) (end - mid) (drop start buffer)
    ∙ ap (λ (l : List ℕ). slice_range buffer start mid ++ take (end - mid) l) (drop-drop (mid - start) start buffer ∙ ap (λ (k : ℕ). drop k buffer) back) in
    All-same (λ b. b ≢ NEWLINE) (slice_range buffer start end) (slice_range buffer start mid ++ slice_range buffer mid end) joined
    (All-append (λ b. b ≢ NEWLINE) (slice_range buffer start mid) (slice_range buffer mid end) first second)

slice_get-take : (bytes : List ℕ) (n k : ℕ) → k < n → slice_get (take n bytes) k ≡ slice_get bytes k
slice_get-take bytes zero k lt = absurd (omega arith)
slice_get-take [] (suc n) k lt = refl
slice_get-take (b ∷ bytes) (suc n) zero lt = refl
slice_get-take (b ∷ bytes) (suc n) (suc k) lt = slice_get-take bytes n k (omega arith)

slice_get-drop : (bytes : List ℕ) (n k : ℕ) → slice_get (drop n bytes) k ≡ slice_get bytes (n + k)
slice_get-drop bytes zero k = ap (λ (i : ℕ). slice_get bytes i) (omega arith)
slice_get-drop [] (suc n) k = slice_get_past [] k (omega arith) ∙ sym (slice_get_past [] (suc n + k) (omega arith))
slice_get-drop (b ∷ bytes) (suc n) k = slice_get-drop bytes n k ∙ ap (λ (i : ℕ). slice_get (b ∷ bytes) i) (let e : suc (n + k) ≡ suc n + k = omega arith in e)

slice_get-part : (buffer : List ℕ) (start end k : ℕ) → start + k < end → slice_get (slice_range buffer start end) k ≡ slice_get buffer (start + k)
slice_get-part buffer start end k lt = slice_get-take (drop start buffer) (end - start) k (omega arith) ∙ slice_get-drop buffer start k

-- from a place on, the first n bytes
pub take-part-is : (buffer : List ℕ) (start end n : ℕ) → start + n ≤ end → take n (slice_range buffer start end) ≡ slice_range buffer start (start + n)
take-part-is buffer start end n le =
    let size : n ≡ (start + n) - start = omega arith in
    take-part buffer start end n le ∙ ap (λ (k : ℕ). take k (drop start buffer)) size

-- the first newline byte of a part of a buffer, before the end of the window that was searched
pub record Found (buffer : List ℕ) (start window end n : ℕ) : Type 0 where
  pub within : start + n < window
  pub no_newline : HasNoNewline (take n (slice_range buffer start end))
  pub newline : slice_get (slice_range buffer start end) n ≡ Some NEWLINE

-- Of a buffer's bytes from `start` to `end`, those up to `mid` have no newline. The others are searched up to `window`.
module _ (buffer : List ℕ) (start mid window end : ℕ) (low : start ≤ mid) (in_window : mid ≤ window) (high : window ≤ end) (room : end ≤ length buffer)
    (before : HasNoNewline (slice_range buffer start mid)) where
  pub found : (at : ℕ) → HasNoNewline (take at (slice_range buffer mid window)) → slice_get (slice_range buffer mid window) at ≡ Some NEWLINE
      → Found buffer start window end ((mid - start) + at)
  found at none is =
      let inside = slice_get_within (slice_range buffer mid window) at NEWLINE is in
      let size = length-part buffer mid window (omega arith) in
      let within : mid + at < window = omega (arith, inside, size) in
      let place : start + ((mid - start) + at) ≡ mid + at = omega arith in
      let first : HasNoNewline (slice_range buffer mid (mid + at)) = subst HasNoNewline (take-part-is buffer mid window at (omega arith)) none in
      let whole : HasNoNewline (slice_range buffer start (mid + at)) =
      no_newline-part buffer start mid (mid + at) low (omega arith) (omega arith) before first in
      let part_is : take ((mid - start) + at) (slice_range buffer start end) ≡ slice_range buffer start (mid + at) =
      take-part-is buffer start end ((mid - start) + at) (omega arith) ∙ ap (λ (k : ℕ). slice_range buffer start k) place in
      record {
        within = omega arith;
        no_newline = subst HasNoNewline (sym part_is) whole;
        newline = slice_get-part buffer start end ((mid - start) + at) (omega arith) ∙ ap (λ (k : ℕ). slice_get buffer k) place
            ∙ sym (slice_get-part buffer mid window at within) ∙ is;
      }

  -- none was found
  pub not_found : HasNoNewline (slice_range buffer mid window) → HasNoNewline (slice_range buffer start window)
  not_found none = no_newline-part buffer start mid window low in_window (omega arith) before none

-- The bytes of a symbol that a reading is in.
use Rattle.std.proofs.Common.{◌≡◌, ℕ, suc, ◌+◌, ◌-◌, ◌<◌, ◌≤◌, List, [], ◌∷◌, ◌++◌, length, take, drop, get_or, refl, ap, ◌∙◌, arith, length-drop, take-suc, get_or-drop}
use Rattle.std.specs.Prelude.{slice_range, slice_index}

pub slice_none : (text : List ℕ) (at : ℕ) → slice_range text at at ≡ []
slice_none text at =
    let none : at - at ≡ 0 = omega arith in
    rw none refl

pub slice_more : (text : List ℕ) (start at : ℕ) → start ≤ at → at < length text
    → slice_range text start (at + 1) ≡ slice_range text start at ++ (slice_index text at ∷ [])
slice_more text start at low lt =
    let count : (at + 1) - start ≡ suc (at - start) = omega arith in
    let place : start + (at - start) ≡ at = omega arith in
    let within : at - start < length (drop start text) = omega (arith, length-drop start text) in
    let read : get_or (drop start text) (at - start) 0 ≡ get_or text (start + (at - start)) 0 = rw get_or-drop refl in
    rw count (take-suc (drop start text) (at - start) 0 within)
    ∙ ap (λ (b : ℕ). take (at - start) (drop start text) ++ (b ∷ [])) (read ∙ ap (λ (k : ℕ). get_or text k 0) place)

pub slice_one : (text : List ℕ) (at : ℕ) → at < length text → slice_range text at (at + 1) ≡ slice_index text at ∷ []
slice_one text at lt = slice_more text at at (omega arith) lt ∙ ap (λ (bs : List ℕ). bs ++ (slice_index text at ∷ [])) (slice_none text at)

-- The pieces of a text between its spaces.
use Rattle.std.proofs.Common.{◌≡◌, ℕ, suc, ◌<◌, List, [], ◌∷◌, ◌++◌, true, not, filter, length, get_or, refl, sym, ap, ◌∙◌, arith, append_assoc, ◌≢◌, Option, None, Some, MatchOption, Bor}
use Rattle.std.specs.Prelude.{◌==◌}
use Rattle.std.specs.List.{slice_split, onto_first}
use Rattle.std.proofs.lemmas.Bool.Decides.{nat_tests}
use Rattle.std.proofs.lemmas.List.Splits.{slice_split-cons_no}
use Rattle.std.proofs.lemmas.List.Elements.{filter-append}
use Rattle.std.proofs.lemmas.Bool.{and_parts, not-true, and_from}
use Rattle.wiki_base.specs.Token.{has_no_space}
use Rattle.form_urlencoded.specs.Form.{is_nonempty}
use Rattle.http_front.specs.Forms.{pieces}

differ : (b : ℕ) → ((b ≡ 32) → ⊥) → not (b == 32) ≡ true
differ b h = grind (arith, nat_tests)

no_space_from_bytes : (bs : List ℕ) → ((i : ℕ) → i < length bs → get_or bs i 0 ≡ 32 → ⊥) → has_no_space bs ≡ true
no_space_from_bytes [] h = refl
no_space_from_bytes (b ∷ bs) h =
    and_from (not (b == 32)) (has_no_space bs) (differ b (h 0 (omega arith))) (no_space_from_bytes bs (λ i lt. h (suc i) (omega arith)))

split_one : (bs : List ℕ) → has_no_space bs ≡ true → slice_split (λ b. b == 32) bs ≡ bs ∷ []
split_one [] h = refl
split_one (b ∷ bs) h =
    let both = and_parts (not (b == 32)) (has_no_space bs) h in
    slice_split-cons_no (λ x. x == 32) b bs (not-true (b == 32) both.0) ∙ ap (onto_first b) (split_one bs both.1)

split_at_space : (xs ys : List ℕ) → has_no_space xs ≡ true → slice_split (λ b. b == 32) (xs ++ 32 ∷ ys) ≡ xs ∷ slice_split (λ b. b == 32) ys
split_at_space [] ys h = refl
split_at_space (x ∷ xs) ys h =
    let both = and_parts (not (x == 32)) (has_no_space xs) h in
    slice_split-cons_no (λ b. b == 32) x (xs ++ 32 ∷ ys) (not-true (x == 32) both.0) ∙ ap (onto_first x) (split_at_space xs ys both.1)

kept_cons : (t : List ℕ) (ts : List (List ℕ)) → filter is_nonempty (t ∷ ts) ≡ filter is_nonempty (t ∷ []) ++ filter is_nonempty ts
kept_cons t ts = filter-append is_nonempty (t ∷ []) ts

pieces_last : (bs : List ℕ) → has_no_space bs ≡ true → pieces bs ≡ filter is_nonempty (bs ∷ [])
pieces_last bs h = ap (filter is_nonempty) (split_one bs h)

pieces_space : (xs ys : List ℕ) → has_no_space xs ≡ true → pieces (xs ++ 32 ∷ ys) ≡ filter is_nonempty (xs ∷ []) ++ pieces ys
pieces_space xs ys h = ap (filter is_nonempty) (split_at_space xs ys h) ∙ kept_cons xs (slice_split (λ b. b == 32) ys)

pub pieces_step : (tokens : List (List ℕ)) (text piece rest : List ℕ) → has_no_space piece ≡ true → text ≡ piece ++ 32 ∷ rest
    → (tokens ++ filter is_nonempty (piece ∷ [])) ++ pieces rest ≡ tokens ++ pieces text
pieces_step tokens text piece rest h e =
    append_assoc tokens (filter is_nonempty (piece ∷ [])) (pieces rest) ∙ ap (λ x. tokens ++ x) (sym (pieces_space piece rest h))
    ∙ ap (λ x. tokens ++ pieces x) (sym e)

pub pieces_end : (tokens : List (List ℕ)) (text : List ℕ) → has_no_space text ≡ true → tokens ++ filter is_nonempty (text ∷ []) ≡ tokens ++ pieces text
pieces_end tokens text h = ap (λ x. tokens ++ x) (sym (pieces_last text h))

pub split_cases : (text : List ℕ) (r : Option (Bor (List ℕ) × Bor (List ℕ)))
    → MatchOption r ((i : ℕ) → i < length text → get_or text i 0 ≢ 32)
    (λ x. (text ≡ x.0.now ++ (32 ∷ x.1.now)) × ((i : ℕ) → i < length x.0.now → get_or x.0.now i 0 ≢ 32))
    → MatchOption r (has_no_space text ≡ true) (λ parts. (has_no_space parts.0.now ≡ true) × (text ≡ parts.0.now ++ 32 ∷ parts.1.now))
split_cases text None h = no_space_from_bytes text h
split_cases text (Some x) h = (no_space_from_bytes x.0.now h.1, h.0)

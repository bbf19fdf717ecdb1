-- What is printed for symbols spells them, and without its spaces it would not.
use Rattle.std.proofs.Common.{◌≡◌, ℕ, Bool, true, false, List, [], ◌∷◌, ◌++◌, refl, sym, ap, subst, ◌∙◌, cond, eqb, leb, not, ◌≤◌, ◌&&◌, ◌||◌, arith, inl, inr}
use Rattle.std.specs.List.{list_all}
use Rattle.std.proofs.lemmas.List.{append_cancel_left}
use Rattle.std.proofs.lemmas.Bool.{and_parts, both_ways, eqb-true, eq-eqb, ne_eqb, leb-true, or_from, or_parts, or_cases, and_from, cond-false}
use Rattle.codeco_text.specs.declared.symbols.Sign.{Sign}
use Rattle.codeco_text.specs.declared.symbols.Sign.TheVariants as sign
use Rattle.codeco_text.specs.declared.symbols.Lexeme.{Lexeme}
use Rattle.codeco_text.specs.declared.symbols.Lexeme.TheVariants as lexeme
use Rattle.codeco_text.specs.Names.{same_bytes, is_among, is_space, is_lower, is_upper, is_word_byte, is_identifier, keywords}
use Rattle.codeco_text.specs.Notation.{labels, kinds, sign_bytes, lexeme_bytes, is_symbol, goes_on, sign_goes_on, is_gap, Spells}
use Rattle.codeco_printer.specs.Printing.{spaced, printed}

sign_ends_at_space : (s : Sign) (rest : List ℕ) → sign_goes_on s (32 ∷ rest) ≡ false
sign_ends_at_space sign.Weak rest = refl
sign_ends_at_space sign.Minus rest = refl
sign_ends_at_space _ rest = refl

ends_at_space : (x : Lexeme) (rest : List ℕ) → goes_on x (32 ∷ rest) ≡ false
ends_at_space (lexeme.Sign s) rest = sign_ends_at_space s rest
ends_at_space x rest = refl

ends_spaced : (x : Lexeme) (rest : List ℕ) (long : Bool) → goes_on x rest ≡ long → goes_on x (cond long (32 ∷ rest) rest) ≡ false
ends_spaced x rest true h = ends_at_space x rest
ends_spaced x rest false h = h

spells_after_space : (text : List ℕ) (xs : List Lexeme) → Spells text xs → Spells (32 ∷ text) xs
spells_after_space text [] s = s
spells_after_space text (x ∷ xs) s =
    let b = s.1 in
    (s.0, record { gap = 32 ∷ b.gap; between = b.between; symbol = b.symbol; longest = b.longest; parts = ap (λ (t : List ℕ). 32 ∷ t) b.parts }, s.2)

spells_spaced : (long : Bool) (text : List ℕ) (xs : List Lexeme) → Spells text xs → Spells (cond long (32 ∷ text) text) xs
spells_spaced true text xs s = spells_after_space text xs s
spells_spaced false text xs s = s

-- what is printed for symbols spells them
pub spells-printed : (xs : List Lexeme) → list_all is_symbol xs ≡ true → Spells (printed xs) xs
spells-printed [] h = refl
spells-printed (x ∷ xs) h =
    let parts = and_parts (is_symbol x) (list_all is_symbol xs) h in
    let rest = printed xs in (
      spaced x rest,
      record { gap = []; between = refl; symbol = parts.0; longest = ends_spaced x rest (goes_on x rest) refl; parts = refl },
      spells_spaced (goes_on x rest) rest xs (spells-printed xs parts.1),
    )

-- no gap begins as a symbol does
abbrev begins_gap : List ℕ → Bool
begins_gap [] = true
begins_gap (b ∷ bs) = eqb b 37 || is_space b

lower_no_gap : (b : ℕ) (bs : List ℕ) → is_lower b ≡ true → begins_gap (b ∷ bs) ≡ false
lower_no_gap b bs h =
    let parts = and_parts (leb 97 b) (leb b 122) h in
    let low : 97 ≤ b = leb-true 97 b parts.0 in
    or_from (eqb b 37) (is_space b) (ne_eqb b 37 (λ e. omega arith))
    (or_from (eqb b 32 || eqb b 9 || eqb b 13) (eqb b 10)
    (or_from (eqb b 32 || eqb b 9) (eqb b 13) (or_from (eqb b 32) (eqb b 9) (ne_eqb b 32 (λ e. omega arith)) (ne_eqb b 9 (λ e. omega arith)))
    (ne_eqb b 13 (λ e. omega arith))) (ne_eqb b 10 (λ e. omega arith)))

upper_no_gap : (b : ℕ) (bs : List ℕ) → is_upper b ≡ true → begins_gap (b ∷ bs) ≡ false
upper_no_gap b bs h =
    let parts = and_parts (leb 65 b) (leb b 90) h in
    let low : 65 ≤ b = leb-true 65 b parts.0 in
    or_from (eqb b 37) (is_space b) (ne_eqb b 37 (λ e. omega arith))
    (or_from (eqb b 32 || eqb b 9 || eqb b 13) (eqb b 10)
    (or_from (eqb b 32 || eqb b 9) (eqb b 13) (or_from (eqb b 32) (eqb b 9) (ne_eqb b 32 (λ e. omega arith)) (ne_eqb b 9 (λ e. omega arith)))
    (ne_eqb b 13 (λ e. omega arith))) (ne_eqb b 10 (λ e. omega arith)))

-- words begin with a byte of words
abbrev pub begins_lower : List ℕ → Bool
begins_lower [] = false
begins_lower (b ∷ bs) = is_lower b

same_comm : (xs ys : List ℕ) → same_bytes xs ys ≡ true → same_bytes ys xs ≡ true
same_comm [] [] h = refl
same_comm [] (y ∷ ys) h = absurd cc
same_comm (x ∷ xs) [] h = absurd cc
same_comm (x ∷ xs) (y ∷ ys) h =
    let parts = and_parts (eqb x y) (same_bytes xs ys) h in
    and_from (eqb y x) (same_bytes ys xs) (eq-eqb y x (sym (eqb-true x y parts.0))) (same_comm xs ys parts.1)

same_begins : (xs ys : List ℕ) → same_bytes xs ys ≡ true → begins_lower xs ≡ true → begins_lower ys ≡ true
same_begins [] ys h l = absurd cc
same_begins (x ∷ xs) [] h l = absurd cc
same_begins (x ∷ xs) (y ∷ ys) h l = subst (λ b. is_lower b ≡ true) (eqb-true x y (and_parts (eqb x y) (same_bytes xs ys) h).0) l

-- every one of these words begins with a lower-case letter
pub among_begins : (words : List (List ℕ)) (w : List ℕ) → list_all begins_lower words ≡ true → is_among words w ≡ true → begins_lower w ≡ true
among_begins [] w all h = absurd cc
among_begins (x ∷ xs) w all h =
    let parts = and_parts (begins_lower x) (list_all begins_lower xs) all in
    elim (or_cases (same_bytes w x) (is_among xs w) h) [ inl e ↦ same_begins x w (same_comm w x e) parts.0 | inr e ↦ among_begins xs w parts.1 e ]

pub identifier_begins : (w : List ℕ) → is_identifier w ≡ true → begins_lower w ≡ true
identifier_begins [] h = absurd cc
identifier_begins (b ∷ bs) h = (and_parts (is_lower b) (list_all is_word_byte bs)
    (and_parts (is_lower b && list_all is_word_byte bs) (not (is_among keywords (b ∷ bs))) h).0).0

lower_front : (w rest : List ℕ) → begins_lower w ≡ true → begins_gap (w ++ rest) ≡ false
lower_front [] rest h = absurd cc
lower_front (b ∷ bs) rest h = lower_no_gap b (bs ++ rest) h

sign_front : (s : Sign) (rest : List ℕ) → begins_gap (sign_bytes s ++ rest) ≡ false
sign_front sign.Colon rest = refl
sign_front s rest = refl

-- a symbol begins with a byte that no gap begins with, whatever stands behind it
front_no_gap : (x : Lexeme) (rest : List ℕ) → is_symbol x ≡ true → begins_gap (lexeme_bytes x ++ rest) ≡ false
front_no_gap (lexeme.Identifier w) rest h = lower_front w rest (identifier_begins w h)
front_no_gap (lexeme.Variable []) rest h = absurd cc
front_no_gap (lexeme.Variable (b ∷ bs)) rest h = upper_no_gap b (bs ++ rest) (and_parts (is_upper b) (list_all is_word_byte bs) h).0
front_no_gap (lexeme.Keyword w) rest h = lower_front w rest (among_begins keywords w refl h)
front_no_gap (lexeme.Label w) rest h = lower_front w rest (among_begins labels w refl h)
front_no_gap (lexeme.Kind w) rest h = lower_front w rest (among_begins kinds w refl h)
front_no_gap (lexeme.Terminal t) rest h = refl
front_no_gap (lexeme.Sign s) rest h = sign_front s rest

gap_front : (b : ℕ) (bs : List ℕ) → eqb b 37 ≡ false → is_space b ≡ false → is_gap false false (b ∷ bs) ≡ true → ⊥
gap_front b bs mark space h =
    let e : is_gap false false (b ∷ bs) ≡ (is_space b && is_gap false false bs) =
    cond-false (eqb b 37) (is_gap false true bs) (is_space b && is_gap false false bs) mark in
    both_ways (is_space b) space (and_parts (is_space b) (is_gap false false bs) (sym e ∙ h)).0

-- a gap in front of a symbol is all of what stands before it
no_gap : (gap front rest : List ℕ) (back : List ℕ) → begins_gap (front ++ rest) ≡ false → is_gap false false gap ≡ true → front ++ rest ≡ gap ++ (front ++ back)
    → rest ≡ back
no_gap [] front rest back begins h e = append_cancel_left front rest back e
no_gap (b ∷ bs) front rest back begins h e =
    let here : begins_gap (b ∷ bs ++ (front ++ back)) ≡ false = sym (ap begins_gap e) ∙ begins in
    let parts = or_parts (eqb b 37) (is_space b) here in
    absurd (gap_front b bs parts.0 parts.1 h)

-- without the space a longer symbol would be read: the text would spell other symbols
pub needs_space : (x : Lexeme) (rest : List ℕ) (xs : List Lexeme) → is_symbol x ≡ true → goes_on x rest ≡ true → Spells (lexeme_bytes x ++ rest) (x ∷ xs) → ⊥
needs_space x rest xs symbol long s =
    let b = s.1 in
    let same : rest ≡ s.0 = no_gap b.gap (lexeme_bytes x) rest s.0 (front_no_gap x rest symbol) b.between b.parts in
    both_ways (goes_on x s.0) b.longest (ap (goes_on x) (sym same) ∙ long)

-- Which texts can be forms, character by character.
use Rattle.std.proofs.Common.{◌≡◌, ℕ, ◌+◌, Bool, true, false, not, ◌&&◌, List, [], ◌∷◌, ◌++◌, length, option_map, is_some, Option, None, Some, refl, sym, ap, ◌∙◌, arith}
use Rattle.std.specs.Prelude.{if◌then◌else◌, encode_utf8}
use Rattle.std.specs.Str.{chars, IsUtf8}
use Rattle.std.proofs.lemmas.Str.{chars_past_char, chars-nil, is_utf8-from_IsUtf8}
use Rattle.wiki_base.specs.Text.{is_letter, is_in_place, misplaced, fault_of}
use Rattle.command_line.specs.Command.{form_given}
use Rattle.command_line.proofs.OptionLemmas.{not_utf8}

-- whether no character is out of place
abbrev pub all_fit : Bool → List ℕ → Bool
all_fit after_letter bytes = not (is_some (misplaced after_letter (chars bytes)))

fits_more : (k : ℕ) (place : Option ℕ) → not (is_some (option_map (λ n. k + n) place)) ≡ not (is_some place)
fits_more k None = refl
fits_more k (Some n) = refl

-- a character that is out of place
pub out_of_place : (after : Bool) (bs rest : List ℕ) (c : ℕ) → IsUtf8 bs → bs ≡ encode_utf8 c ++ rest → is_in_place after c (chars rest) ≡ false
    → all_fit after bs ≡ false
out_of_place after bs rest c utf8 step out =
    ap (λ cs. not (is_some (misplaced after cs))) (chars_past_char bs rest c utf8 step)
    ∙ ap (λ b. not (is_some (if b then option_map (λ n. length (encode_utf8 c) + n) (misplaced (is_letter c) (chars rest)) else Some 0))) out

-- past a character that is in place the rest decides
pub rest_decides : (after : Bool) (bs rest : List ℕ) (c : ℕ) → IsUtf8 bs → bs ≡ encode_utf8 c ++ rest → is_in_place after c (chars rest) ≡ true
    → all_fit after bs ≡ all_fit (is_letter c) rest
rest_decides after bs rest c utf8 step fits =
    ap (λ cs. not (is_some (misplaced after cs))) (chars_past_char bs rest c utf8 step)
    ∙ ap (λ b. not (is_some (if b then option_map (λ n. length (encode_utf8 c) + n) (misplaced (is_letter c) (chars rest)) else Some 0))) fits
    ∙ fits_more (length (encode_utf8 c)) (misplaced (is_letter c) (chars rest))

-- at the end none is out of place
pub none_left : (after : Bool) (bs : List ℕ) → length bs ≡ 0 → all_fit after bs ≡ true
none_left after [] empty = ap (λ cs. not (is_some (misplaced after cs))) chars-nil
none_left after (b ∷ bs) empty = absurd (omega arith)

-- a text that can be a form is the form that the word is
pub form_told : (word text : List ℕ) (told : Option (List ℕ)) → (text ≡ word) × IsUtf8 word
    → told ≡ (if not (is_some (fault_of text)) then Some text else None) → told ≡ form_given word
form_told word text told is says =
    says ∙ ap (λ (t : List ℕ). if not (is_some (fault_of t)) then Some t else None) is.0
    ∙ sym (ap (λ (b : Bool). if b && not (is_some (fault_of word)) then Some word else None) (is_utf8-from_IsUtf8 word is.1))

-- bytes that are no text are no form
pub no_form : (word : List ℕ) → ¬ IsUtf8 word → None ≡ form_given word
no_form word no_text = sym (ap (λ (b : Bool). if b && not (is_some (fault_of word)) then Some word else None) (not_utf8 word no_text))

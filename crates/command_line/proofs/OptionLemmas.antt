-- Words of the command line.
use Rattle.std.proofs.Common.{◌≡◌, ℕ, Bool, true, false, not, ◌&&◌, if◌then◌else◌, List, ◌∷◌, Option, Some, None, refl, sym, ap, ◌∙◌}
use Rattle.std.specs.Prelude.{IsUtf8, option_and_then}
use Rattle.std.specs.Str.{is_utf8}
use Rattle.std.proofs.lemmas.Str.{is_utf8-from_IsUtf8, IsUtf8-from_is_utf8}
use Rattle.command_line.specs.Command.{Given, begins_with_hyphen, is_address, with_option, options_after}

-- a text without a hyphen at its front
pub an_address : (word s : List ℕ) → begins_with_hyphen word ≡ false → (s ≡ word) × IsUtf8 word → Some s ≡ (if is_address word then Some word else None)
an_address word s hyphen is =
    let test : is_address word ≡ true = ap (λ (b : Bool). not b && is_utf8 word) hyphen ∙ is_utf8-from_IsUtf8 word is.1 in
    ap Some is.0 ∙ sym (ap (λ (b : Bool). if b then Some word else None) test)

pub not_utf8 : (word : List ℕ) → ¬ IsUtf8 word → is_utf8 word ≡ false
not_utf8 word no_text =
    let Claim : Bool → Type 0 = λ b. is_utf8 word ≡ b → b ≡ false in
    let cases : (b : Bool) → Claim b = λ b. elim b as Claim [ true ↦ λ is. absurd (no_text (IsUtf8-from_is_utf8 word is)) | false ↦ λ _. refl ] in
    cases (is_utf8 word) refl

-- bytes that are no text
pub no_address : (word : List ℕ) → begins_with_hyphen word ≡ false → ¬ IsUtf8 word → None ≡ (if is_address word then Some word else None)
no_address word hyphen no_text =
    let test : is_address word ≡ false = ap (λ (b : Bool). not b && is_utf8 word) hyphen ∙ not_utf8 word no_text in
    sym (ap (λ (b : Bool). if b then Some word else None) test)

-- one option further
pub options_step : (given next : Given) (rest behind others : List (List ℕ)) (name value : List ℕ) (target : Option Given) → rest ≡ name ∷ behind
    → behind ≡ value ∷ others
    → with_option given name value ≡ Some next → options_after given rest ≡ target → options_after next others ≡ target
options_step given next rest behind others name value target first second is so_far =
    sym (ap (option_and_then (λ more. options_after more others)) is) ∙ sym (ap (options_after given) (first ∙ ap (λ ws. name ∷ ws) second)) ∙ so_far

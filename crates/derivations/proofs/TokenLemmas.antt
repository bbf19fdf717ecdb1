-- Terminals and the forms of words are tokens.
use Rattle.std.proofs.Common.{◌≡◌, ℕ, ◌+◌, ◌-◌, ◌<◌, List, [], ◌∷◌, Bool, true, false, ◌&&◌, ◌||◌, length, get_or, None, refl, sym, ap, ◌∙◌, arith, nat_lt}
use Rattle.std.specs.Prelude.{if◌then◌else◌, ◌==◌}
use Rattle.std.specs.List.{list_all}
use Rattle.std.specs.Str.{chars, IsUtf8, NonePass, NoCharPasses}
use Rattle.std.proofs.lemmas.Str.{encodes-chars, NoCharPasses-byte}
use Rattle.std.proofs.lemmas.Bool.{and_parts, and_from}
use Rattle.wiki_base.specs.Text.{is_letter, is_in_place, misplaced, IsText}
use Rattle.wiki_base.specs.Token.{IsToken}
use Rattle.derivation_trees.proofs.WordLemmas.{spaceless, letter-space, excluded, placed_step, no_fault}
use Rattle.codeco_text.specs.Names.{is_terminal_byte, ends_well, is_terminal}
use Rattle.derivation_trees.proofs.PieceLemmas.{no_space_from_bytes}

-- Terminals

pub terminal_token : (t : List ℕ) → is_terminal t ≡ true → IsToken t
terminal_token [] h = cc
terminal_token (b ∷ []) h = (omega arith, spaceless (b ∷ []) (and_from (is_terminal_byte b) true h refl))
terminal_token (b ∷ c ∷ bs) h =
    let outer = and_parts (is_terminal_byte b && list_all is_terminal_byte (c ∷ bs)) (ends_well (c ∷ bs)) h in
    (omega arith, spaceless (b ∷ c ∷ bs) outer.0)

-- Forms of words

abbrev is_space : ℕ → Bool
is_space c = c == 32

letter_fails : (after : Bool) (c : ℕ) (rest : List ℕ) → is_in_place after c rest ≡ true → is_space c ≡ false
letter_fails after c rest h = excluded 32 after c rest (c == 32) refl letter-space refl h

none_space : (after : Bool) (cs : List ℕ) → misplaced after cs ≡ None → NonePass is_space cs
none_space after [] h = tt
none_space after (d ∷ ds) h =
    let step = placed_step after d ds (is_in_place after d ds) refl h in
    (letter_fails after d ds step.0, none_space (is_letter d) ds step.1)

no_space_there : (x : ℕ) → x ≡ 32 → is_space x ≡ false → ⊥
no_space_there x e h =
    let at : true ≡ false = ap is_space (sym e) ∙ h in
    cc

pub text_token : (t : List ℕ) → IsUtf8 t → IsText t → IsToken t
text_token [] utf8 h = cc
text_token (b ∷ bs) utf8 h =
    let placed : misplaced false (chars (b ∷ bs)) ≡ None = no_fault (nat_lt 64 (length (b ∷ bs))) (misplaced false (chars (b ∷ bs))) h in
    let none : NoCharPasses is_space (b ∷ bs) = (chars (b ∷ bs), encodes-chars (b ∷ bs) utf8, none_space false (chars (b ∷ bs)) placed) in (
      omega arith,
      no_space_from_bytes (b ∷ bs)
          (λ i lt e. no_space_there (get_or (b ∷ bs) i 0) e (NoCharPasses-byte is_space (b ∷ bs) i none lt (omega (arith, e)))),
    )

-- The text that is printed for symbols.
use Rattle.std.specs.Prelude.{◌≡◌, ℕ, true, List, [], ◌∷◌, ◌++◌, if◌then◌else◌}
use Rattle.codeco_text.specs.declared.symbols.Lexeme.{Lexeme}
use Rattle.codeco_text.specs.Notation.{lexeme_bytes, goes_on, Spells}

-- the text behind a symbol, after one space where a longer symbol would be read without it
abbrev pub spaced : Lexeme → List ℕ → List ℕ
spaced x rest = if goes_on x rest then 32 ∷ rest else rest

-- The symbols, with one space exactly between two that would be read otherwise without it.
abbrev pub printed : List Lexeme → List ℕ
printed [] = []
printed (x ∷ xs) = lexeme_bytes x ++ spaced x (printed xs)

-- Where a space is put between a symbol and those behind it, the text without that space would not spell them.
abbrev pub NeedsSpaces : List Lexeme → Type 0
NeedsSpaces xs = (front : List Lexeme) (x : Lexeme) (back : List Lexeme) → xs ≡ front ++ x ∷ back → goes_on x (printed back) ≡ true
    → ¬ Spells (lexeme_bytes x ++ printed back) (x ∷ back)

-- The words that a grammar itself has, as `every`.
use Rattle.std.specs.Prelude.{ℕ, Bool, ◌||◌, List, [], ◌∷◌}
use Rattle.std.specs.Char.{to_ascii_uppercase}
use Rattle.std.specs.List.{list_any}
use Rattle.std.specs.Str.{bytes_eq}

-- the terminal with its first letter, if that is one from a to z, raised to upper case, as at the start of a sentence
abbrev pub raised : List ℕ → List ℕ
raised [] = []
raised (b ∷ bs) = to_ascii_uppercase b ∷ bs

-- the text is the terminal, or is the terminal raised
abbrev pub is_spelling_of : List ℕ → List ℕ → Bool
is_spelling_of text terminal = bytes_eq text terminal || bytes_eq text (raised terminal)

-- the text is one of the terminals, or one of them raised
abbrev pub is_reserved : List (List ℕ) → List ℕ → Bool
is_reserved terminals text = list_any (is_spelling_of text) terminals

-- The bytes that names, variables and terminals of the grammar notation are made of.
use Rattle.std.specs.Prelude.{ℕ, Bool, true, false, not, ◌&&◌, ◌||◌, ◌==◌, nat_le, List, [], ◌∷◌, codes}
use Rattle.std.specs.List.{list_all, list_any}

-- the same bytes
abbrev pub same_bytes : List ℕ → List ℕ → Bool
same_bytes [] [] = true
same_bytes [] (y ∷ ys) = false
same_bytes (x ∷ xs) [] = false
same_bytes (x ∷ xs) (y ∷ ys) = (x == y) && same_bytes xs ys

-- among these texts
abbrev pub is_among : List (List ℕ) → List ℕ → Bool
is_among texts word = list_any (same_bytes word) texts

-- space, tab, carriage return and newline
abbrev pub is_space : ℕ → Bool
is_space b = (b == 32) || (b == 9) || (b == 13) || (b == 10)

abbrev pub is_lower : ℕ → Bool
is_lower b = nat_le 97 b && nat_le b 122

abbrev pub is_upper : ℕ → Bool
is_upper b = nat_le 65 b && nat_le b 90

-- a letter, a digit or _
abbrev pub is_word_byte : ℕ → Bool
is_word_byte b = is_lower b || is_upper b || (nat_le 48 b && nat_le b 57) || (b == 95)

-- a lower-case letter, and then letters, digits and _
abbrev pub is_lower_word : List ℕ → Bool
is_lower_word [] = false
is_lower_word (b ∷ bs) = is_lower b && list_all is_word_byte bs

-- the words that are no identifiers
abbrev pub keywords : List (List ℕ)
keywords = codes "feature" ∷ codes "word" ∷ codes "position" ∷ []

abbrev pub is_identifier : List ℕ → Bool
is_identifier word = is_lower_word word && not (is_among keywords word)

-- an upper-case letter, and then letters, digits and _
abbrev pub is_variable : List ℕ → Bool
is_variable [] = false
is_variable (b ∷ bs) = is_upper b && list_all is_word_byte bs

-- neither white space nor a bracket
abbrev pub is_terminal_byte : ℕ → Bool
is_terminal_byte b = not (is_space b || (b == 91) || (b == 93))

-- the last byte is neither . nor ?
abbrev pub ends_well : List ℕ → Bool
ends_well [] = true
ends_well (b ∷ []) = not ((b == 46) || (b == 63))
ends_well (b ∷ c ∷ bs) = ends_well (c ∷ bs)

-- one byte or more; of more than one byte the last is neither . nor ?
abbrev pub is_terminal : List ℕ → Bool
is_terminal [] = false
is_terminal (b ∷ []) = is_terminal_byte b
is_terminal (b ∷ c ∷ bs) = is_terminal_byte b && list_all is_terminal_byte (c ∷ bs) && ends_well (c ∷ bs)

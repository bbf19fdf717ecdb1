-- Numbers that are drawn, and words that are counted by letters.
use Rattle.std.specs.Prelude.{ℕ, ◌+◌, ◌*◌, ◌%◌, List, [], ◌∷◌, ◌++◌, codes}

-- The number that is drawn after another: a linear congruential generator modulo the prime 65537.
abbrev pub next_draw : ℕ → ℕ
next_draw s = (s * 75 + 74) % 65537

-- the letter with the number, from `a` for 0
abbrev pub letter : ℕ → List ℕ
letter n = (97 + n) ∷ []

-- the forms of the words, each by the number of its letter
abbrev pub noun : ℕ → List ℕ
noun n = codes "noun" ++ letter n

abbrev pub nouns : ℕ → List ℕ
nouns n = noun n ++ codes "s"

abbrev pub name : ℕ → List ℕ
name n = codes "Name" ++ letter n

abbrev pub verb : ℕ → List ℕ
verb n = codes "verb" ++ letter n

abbrev pub verbs : ℕ → List ℕ
verbs n = verb n ++ codes "s"

abbrev pub verbed : ℕ → List ℕ
verbed n = verb n ++ codes "ed"

-- Texts and statements: rules 1 to 7.
use Rattle.std.specs.Prelude.{List, [], ◌∷◌}
use Rattle.codeco_terms.specs.declared.elements.Element.TheVariants.{Sub, Opener}
use Rattle.codeco_terms.specs.declared.rules.Rule.{Rule}
use Rattle.codeco_terms.specs.declared.rules.Label.TheVariants.{Statement, Ask, Pass, If, And, Say}
use Rattle.ace_grammar.specs.Notation.{over-1, ⟨◌⟩◌⟶◌, ⟨◌⟩◌⟿◌, cat, ◌∶◌, ◌≔◌, ◌&◌, token}

unfoldable pub statements : List Rule
statements =
    -- 1
    (⟨ Statement ⟩ cat "text" ⟶ Sub (cat "s") ∷ token "." ∷ []) ∷
    -- 2
    (⟨ Ask ⟩ cat "text" ⟶ Sub (cat "q") ∷ token "?" ∷ []) ∷
    -- 3
    (⟨ Pass ⟩ cat "s" ⟶ Sub (cat "c") ∷ []) ∷
    -- 4
    (⟨ If ⟩ cat "s" ⟿ token "if" ∷ Opener ∷ Sub (cat "cs") ∷ token "then" ∷ Sub (cat "cs") ∷ []) ∷
    -- 5
    (⟨ Pass ⟩ cat "cs" ⟶ Sub (cat "c") ∷ []) ∷
    -- 6
    (⟨ And ⟩ cat "cs" ⟶ Sub (cat "c") ∷ token "and" ∷ Sub (cat "cs") ∷ []) ∷
    -- 7
    (over-1 λ I. ⟨ Say ⟩ cat "c" ⟿ Sub (cat "np" & "id" ∶ I) ∷ Sub (cat "vps" & "num" ≔ "sg" & "sub" ∶ I) ∷ []) ∷
    []

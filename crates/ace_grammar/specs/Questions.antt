-- Questions: rules 77 to 81.
use Rattle.std.specs.Prelude.{List, [], ◌∷◌}
use Rattle.codeco_terms.specs.declared.elements.Element.TheVariants.{Preterminal, Sub, Position, Forward}
use Rattle.codeco_terms.specs.declared.rules.Rule.{Rule}
use Rattle.codeco_terms.specs.declared.rules.Label.TheVariants.{What, Which, Noun, Whichobj}
use Rattle.ace_grammar.specs.Notation.{over-1, over-2, over-3, ⟨◌⟩◌⟶◌, ⟨◌⟩◌⟿◌, cat, ◌∶◌, ◌≔◌, ◌&◌, token}

unfoldable pub questions : List Rule
questions =
    -- 77
    (over-1 λ P. ⟨ What ⟩ cat "q" ⟿ token "what" ∷ Position P ∷ Forward (cat "rthing" & "id" ∶ P) ∷ Sub (cat "vps" & "num" ≔ "sg" & "sub" ∶ P) ∷ []) ∷
    -- 78
    (over-1 λ P. ⟨ What ⟩ cat "q" ⟿ token "who" ∷ Position P ∷ Forward (cat "rthing" & "id" ∶ P) ∷ Sub (cat "vps" & "num" ≔ "sg" & "sub" ∶ P) ∷ []) ∷
    -- 79
    (over-2 λ N P. ⟨ Which ⟩ cat "q" ⟿ token "which" ∷ Sub (cat "nq" & "num" ∶ N & "id" ∶ P) ∷ Sub (cat "vps" & "num" ∶ N & "sub" ∶ P) ∷ []) ∷
    -- 80
    (over-3 λ N P W. ⟨ Noun ⟩ cat "nq" & "num" ∶ N & "id" ∶ P ⟶ Preterminal (cat "noun" & "num" ∶ N & "w" ∶ W) ∷ Position P ∷
    Forward (cat "rnoun" & "w" ∶ W & "id" ∶ P) ∷ []) ∷
    -- 81
    (⟨ Whichobj ⟩ cat "q" ⟿ token "which" ∷ Sub (cat "nq") ∷ token "does" ∷ Sub (cat "np") ∷ Preterminal (cat "verb" & "form" ≔ "inf") ∷ []) ∷
    []

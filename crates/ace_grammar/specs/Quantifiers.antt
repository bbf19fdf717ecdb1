-- Noun phrases with a quantifier, and nouns: rules 65 to 76.
use Rattle.std.specs.Prelude.{List, [], ◌∷◌}
use Rattle.codeco_terms.specs.declared.elements.Element.TheVariants.{Preterminal, Sub, Position, Opener, Forward}
use Rattle.codeco_terms.specs.declared.rules.Rule.{Rule}
use Rattle.codeco_terms.specs.declared.rules.Label.TheVariants.{Some, Every, No, Something, Everything, Nothing, Noun, Part}
use Rattle.ace_grammar.specs.Notation.{over-1, over-2, over-3, ⟨◌⟩◌⟶◌, cat, ◌∶◌, ◌≔◌, ◌&◌, token}

unfoldable pub quantifiers : List Rule
quantifiers =
    -- 65
    (over-2 λ I V. ⟨ Some ⟩ cat "qp" & "id" ∶ I ⟶ Sub (cat "det" & "vow" ∶ V) ∷ Sub (cat "nb" & "vow" ∶ V & "id" ∶ I) ∷ []) ∷
    -- 66
    (over-1 λ I. ⟨ Every ⟩ cat "qp" & "id" ∶ I ⟶ token "every" ∷ Opener ∷ Sub (cat "nb" & "id" ∶ I) ∷ []) ∷
    -- 67
    (over-1 λ I. ⟨ No ⟩ cat "qp" & "id" ∶ I ⟶ token "no" ∷ Opener ∷ Sub (cat "nb" & "id" ∶ I) ∷ []) ∷
    -- 68
    (over-1 λ P. ⟨ Something ⟩ cat "qp" & "id" ∶ P ⟶ token "something" ∷ Position P ∷ Forward (cat "rthing" & "id" ∶ P) ∷ []) ∷
    -- 69
    (over-1 λ P. ⟨ Something ⟩ cat "qp" & "id" ∶ P ⟶ token "something" ∷ Position P ∷ Forward (cat "rthing" & "id" ∶ P) ∷
    Sub (cat "rels" & "sub" ∶ P) ∷ []) ∷
    -- 70
    (over-1 λ P. ⟨ Everything ⟩ cat "qp" & "id" ∶ P ⟶ token "everything" ∷ Opener ∷ Position P ∷ Forward (cat "rthing" & "id" ∶ P) ∷ []) ∷
    -- 71
    (over-1 λ P. ⟨ Everything ⟩ cat "qp" & "id" ∶ P ⟶ token "everything" ∷ Opener ∷ Position P ∷ Forward (cat "rthing" & "id" ∶ P) ∷
    Sub (cat "rels" & "sub" ∶ P) ∷ []) ∷
    -- 72
    (over-1 λ P. ⟨ Nothing ⟩ cat "qp" & "id" ∶ P ⟶ token "nothing" ∷ Opener ∷ Position P ∷ Forward (cat "rthing" & "id" ∶ P) ∷ []) ∷
    -- 73
    (over-1 λ P. ⟨ Nothing ⟩ cat "qp" & "id" ∶ P ⟶ token "nothing" ∷ Opener ∷ Position P ∷ Forward (cat "rthing" & "id" ∶ P) ∷
    Sub (cat "rels" & "sub" ∶ P) ∷ []) ∷
    -- 74
    (over-3 λ V P W. ⟨ Noun ⟩ cat "nb" & "vow" ∶ V & "id" ∶ P ⟶ Preterminal (cat "noun" & "num" ≔ "sg" & "vow" ∶ V & "w" ∶ W) ∷ Position P ∷
    Forward (cat "rnoun" & "w" ∶ W & "id" ∶ P) ∷ []) ∷
    -- 75
    (over-3 λ V P W. ⟨ Noun ⟩ cat "nb" & "vow" ∶ V & "id" ∶ P ⟶ Preterminal (cat "noun" & "num" ≔ "sg" & "vow" ∶ V & "w" ∶ W) ∷ Position P ∷
    Forward (cat "rnoun" & "w" ∶ W & "id" ∶ P) ∷ Sub (cat "rels" & "sub" ∶ P) ∷ []) ∷
    -- 76
    (over-3 λ V P W. ⟨ Part ⟩ cat "nb" & "vow" ∶ V & "id" ∶ P ⟶ Preterminal (cat "of" & "vow" ∶ V & "w" ∶ W) ∷ Position P ∷
    Forward (cat "rnoun" & "w" ∶ W & "id" ∶ P) ∷ token "of" ∷ Sub (cat "obj" & "sub" ∶ P) ∷ []) ∷
    []

-- Noun phrases: subjects, objects, pronouns, names and variables: rules 48 to 64.
use Rattle.std.specs.Prelude.{List, [], ◌∷◌}
use Rattle.codeco_terms.specs.declared.elements.Element.TheVariants.{Preterminal, Sub, Position, Forward, Strong, Back, NoBack}
use Rattle.codeco_terms.specs.declared.rules.Rule.{Rule}
use Rattle.codeco_terms.specs.declared.rules.Label.TheVariants.{Pass, Refer, Name, Var}
use Rattle.ace_grammar.specs.Notation.{over-1, over-2, ⟨◌⟩◌⟶◌, cat, ◌∶◌, ◌≔◌, ◌&◌, ◌&?id◌, plain, token}

unfoldable pub noun_phrases : List Rule
noun_phrases =
    -- 48
    (over-1 λ I. ⟨ Pass ⟩ cat "np" & "id" ∶ I ⟶ Sub (cat "term" & "id" ∶ I) ∷ []) ∷
    -- 49
    (over-1 λ I. ⟨ Pass ⟩ cat "np" & "id" ∶ I ⟶ Sub (cat "qp" & "id" ∶ I) ∷ []) ∷
    -- 50
    (over-1 λ I. ⟨ Refer ⟩ cat "np" & "id" ∶ I ⟶ Back (cat "rname" &?id I ∷ cat "rnoun" &?id I ∷ cat "rthing" &?id I ∷ cat "rvar" &?id I ∷ []) [] ∷
    token "it" ∷ []) ∷
    -- 51
    (⟨ Pass ⟩ cat "obj" ⟶ Sub (cat "term") ∷ []) ∷
    -- 52
    (⟨ Pass ⟩ cat "obj" ⟶ Sub (cat "qp") ∷ []) ∷
    -- 53
    (over-1 λ S. ⟨ Pass ⟩ cat "obj" & "sub" ∶ S ⟶ Sub (cat "pron" & "sub" ∶ S) ∷ []) ∷
    -- 54
    (over-2 λ S I. ⟨ Refer ⟩ cat "pron" & "sub" ∶ S ⟶ Back (cat "rname" &?id I ∷ cat "rnoun" &?id I ∷ cat "rthing" &?id I ∷ cat "rvar" &?id I ∷
    []) (plain (cat "rname" & "id" ∶ S) ∷ plain (cat "rnoun" & "id" ∶ S) ∷ plain (cat "rthing" & "id" ∶ S) ∷ plain (cat "rvar" & "id" ∶ S) ∷ []) ∷
    token "it" ∷ []) ∷
    -- 55
    (over-1 λ S. ⟨ Refer ⟩ cat "pron" & "sub" ∶ S ⟶ Back (plain (cat "rname" & "id" ∶ S) ∷ plain (cat "rnoun" & "id" ∶ S) ∷
    plain (cat "rthing" & "id" ∶ S) ∷ plain (cat "rvar" & "id" ∶ S) ∷ []) [] ∷ token "itself" ∷ []) ∷
    -- 56
    (over-2 λ P W. ⟨ Name ⟩ cat "term" & "id" ∶ P ⟶ Preterminal (cat "name" & "w" ∶ W) ∷ Position P ∷ Strong (cat "rname" & "w" ∶ W & "id" ∶ P) ∷ []) ∷
    -- 57
    (over-2 λ I W. ⟨ Refer ⟩ cat "term" & "id" ∶ I ⟶ Back (cat "rnoun" & "w" ∶ W &?id I ∷ []) [] ∷ token "the" ∷
    Preterminal (cat "noun" & "num" ≔ "sg" & "w" ∶ W) ∷ []) ∷
    -- 58
    (over-2 λ I W. ⟨ Refer ⟩ cat "term" & "id" ∶ I ⟶ Back (cat "rnoun" & "w" ∶ W &?id I ∷ []) [] ∷ token "the" ∷
    Preterminal (cat "of" & "w" ∶ W) ∷ []) ∷
    -- 59
    (over-1 λ P. ⟨ Var ⟩ cat "term" & "id" ∶ P ⟶ NoBack (plain (cat "rvar" & "v" ≔ "x") ∷ []) ∷ token "X" ∷ Position P ∷
    Forward (cat "rvar" & "v" ≔ "x" & "id" ∶ P) ∷ []) ∷
    -- 60
    (over-1 λ I. ⟨ Refer ⟩ cat "term" & "id" ∶ I ⟶ Back (cat "rvar" & "v" ≔ "x" &?id I ∷ []) [] ∷ token "X" ∷ []) ∷
    -- 61
    (over-1 λ P. ⟨ Var ⟩ cat "term" & "id" ∶ P ⟶ NoBack (plain (cat "rvar" & "v" ≔ "y") ∷ []) ∷ token "Y" ∷ Position P ∷
    Forward (cat "rvar" & "v" ≔ "y" & "id" ∶ P) ∷ []) ∷
    -- 62
    (over-1 λ I. ⟨ Refer ⟩ cat "term" & "id" ∶ I ⟶ Back (cat "rvar" & "v" ≔ "y" &?id I ∷ []) [] ∷ token "Y" ∷ []) ∷
    -- 63
    (over-1 λ P. ⟨ Var ⟩ cat "term" & "id" ∶ P ⟶ NoBack (plain (cat "rvar" & "v" ≔ "z") ∷ []) ∷ token "Z" ∷ Position P ∷
    Forward (cat "rvar" & "v" ≔ "z" & "id" ∶ P) ∷ []) ∷
    -- 64
    (over-1 λ I. ⟨ Refer ⟩ cat "term" & "id" ∶ I ⟶ Back (cat "rvar" & "v" ≔ "z" &?id I ∷ []) [] ∷ token "Z" ∷ []) ∷
    []

-- Verb phrases: verbs, `only`, `not`, `does`, `is`: rules 8 to 25.
use Rattle.std.specs.Prelude.{List, [], ◌∷◌}
use Rattle.codeco_terms.specs.declared.elements.Element.TheVariants.{Preterminal, Sub, Position, Opener, Forward}
use Rattle.codeco_terms.specs.declared.rules.Rule.{Rule}
use Rattle.codeco_terms.specs.declared.rules.Label.TheVariants.{Pass, Or, And, Does, Only, Not, Mark}
use Rattle.ace_grammar.specs.Notation.{over-1, over-2, ⟨◌⟩◌⟶◌, ⟨◌⟩◌⟿◌, cat, ◌∶◌, ◌≔◌, ◌&◌, token}

unfoldable pub verb_phrases : List Rule
verb_phrases =
    -- 8
    (over-2 λ N S. ⟨ Pass ⟩ cat "vps" & "num" ∶ N & "sub" ∶ S ⟶ Sub (cat "vpa" & "num" ∶ N & "sub" ∶ S) ∷ []) ∷
    -- 9
    (over-2 λ N S. ⟨ Or ⟩ cat "vps" & "num" ∶ N & "sub" ∶ S ⟶ Sub (cat "vpo" & "num" ∶ N & "sub" ∶ S) ∷ token "or" ∷
    Sub (cat "vpr" & "num" ∶ N & "sub" ∶ S) ∷ []) ∷
    -- 10
    (over-2 λ N S. ⟨ Pass ⟩ cat "vpo" & "num" ∶ N & "sub" ∶ S ⟿ Opener ∷ Sub (cat "vpa" & "num" ∶ N & "sub" ∶ S) ∷ []) ∷
    -- 11
    (over-2 λ N S. ⟨ Pass ⟩ cat "vpr" & "num" ∶ N & "sub" ∶ S ⟶ Sub (cat "vpo" & "num" ∶ N & "sub" ∶ S) ∷ []) ∷
    -- 12
    (over-2 λ N S. ⟨ Or ⟩ cat "vpr" & "num" ∶ N & "sub" ∶ S ⟶ Sub (cat "vpo" & "num" ∶ N & "sub" ∶ S) ∷ token "or" ∷
    Sub (cat "vpr" & "num" ∶ N & "sub" ∶ S) ∷ []) ∷
    -- 13
    (over-2 λ N S. ⟨ Pass ⟩ cat "vpa" & "num" ∶ N & "sub" ∶ S ⟶ Sub (cat "vp" & "num" ∶ N & "sub" ∶ S) ∷ []) ∷
    -- 14
    (over-2 λ N S. ⟨ And ⟩ cat "vpa" & "num" ∶ N & "sub" ∶ S ⟶ Sub (cat "vp" & "num" ∶ N & "sub" ∶ S) ∷ token "and" ∷
    Sub (cat "vpa" & "num" ∶ N & "sub" ∶ S) ∷ []) ∷
    -- 15
    (over-1 λ S. ⟨ Does ⟩ cat "vp" & "num" ≔ "sg" & "sub" ∶ S ⟿ Preterminal (cat "verb" & "form" ≔ "third") ∷ Sub (cat "obj" & "sub" ∶ S) ∷ []) ∷
    -- 16
    (over-1 λ S. ⟨ Does ⟩ cat "vp" & "num" ≔ "pl" & "sub" ∶ S ⟿ Preterminal (cat "verb" & "form" ≔ "inf") ∷ Sub (cat "obj" & "sub" ∶ S) ∷ []) ∷
    -- 17
    (over-2 λ W P. ⟨ Only ⟩ cat "vp" & "num" ≔ "sg" ⟿ Preterminal (cat "verb" & "form" ≔ "third") ∷ token "only" ∷ Opener ∷
    Preterminal (cat "noun" & "num" ≔ "pl" & "w" ∶ W) ∷ Position P ∷ Forward (cat "rnoun" & "w" ∶ W & "id" ∶ P) ∷ []) ∷
    -- 18
    (over-2 λ N S. ⟨ Not ⟩ cat "vp" & "num" ∶ N & "sub" ∶ S ⟿ Sub (cat "do" & "num" ∶ N) ∷ token "not" ∷ Opener ∷ Sub (cat "vi" & "sub" ∶ S) ∷ []) ∷
    -- 19
    (over-1 λ S. ⟨ Does ⟩ cat "vi" & "sub" ∶ S ⟶ Preterminal (cat "verb" & "form" ≔ "inf") ∷ Sub (cat "obj" & "sub" ∶ S) ∷ []) ∷
    -- 20
    (over-2 λ N S. ⟨ Pass ⟩ cat "vp" & "num" ∶ N & "sub" ∶ S ⟿ Sub (cat "be" & "num" ∶ N) ∷ Sub (cat "pr" & "num" ∶ N & "sub" ∶ S) ∷ []) ∷
    -- 21
    (over-2 λ N S. ⟨ Not ⟩ cat "vp" & "num" ∶ N & "sub" ∶ S ⟿ Sub (cat "be" & "num" ∶ N) ∷ token "not" ∷ Opener ∷
    Sub (cat "pr" & "num" ∶ N & "sub" ∶ S) ∷ []) ∷
    -- 22
    (⟨ Mark ⟩ cat "do" & "num" ≔ "sg" ⟶ token "does" ∷ []) ∷
    -- 23
    (⟨ Mark ⟩ cat "do" & "num" ≔ "pl" ⟶ token "do" ∷ []) ∷
    -- 24
    (⟨ Mark ⟩ cat "be" & "num" ≔ "sg" ⟶ token "is" ∷ []) ∷
    -- 25
    (⟨ Mark ⟩ cat "be" & "num" ≔ "pl" ⟶ token "are" ∷ []) ∷
    []

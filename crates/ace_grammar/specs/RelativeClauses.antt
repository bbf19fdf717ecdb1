-- Relative clauses: rules 38 to 47.
use Rattle.std.specs.Prelude.{List, [], ◌∷◌}
use Rattle.codeco_terms.specs.declared.elements.Element.TheVariants.{Preterminal, Sub, Opener}
use Rattle.codeco_terms.specs.declared.rules.Rule.{Rule}
use Rattle.codeco_terms.specs.declared.rules.Label.TheVariants.{Pass, And, Or, Gap, Mark}
use Rattle.ace_grammar.specs.Notation.{over-1, ⟨◌⟩◌⟶◌, ⟨◌⟩◌⟿◌, cat, ◌∶◌, ◌≔◌, ◌&◌, token}

unfoldable pub relative_clauses : List Rule
relative_clauses =
    -- 38
    (over-1 λ S. ⟨ Pass ⟩ cat "rels" & "sub" ∶ S ⟶ Sub (cat "rel" & "sub" ∶ S) ∷ []) ∷
    -- 39
    (over-1 λ S. ⟨ And ⟩ cat "rels" & "sub" ∶ S ⟶ Sub (cat "rel" & "sub" ∶ S) ∷ token "and" ∷ Sub (cat "rels" & "sub" ∶ S) ∷ []) ∷
    -- 40
    (over-1 λ S. ⟨ Or ⟩ cat "rels" & "sub" ∶ S ⟶ Sub (cat "relo" & "sub" ∶ S) ∷ token "or" ∷ Sub (cat "relr" & "sub" ∶ S) ∷ []) ∷
    -- 41
    (over-1 λ S. ⟨ Pass ⟩ cat "relo" & "sub" ∶ S ⟿ Opener ∷ Sub (cat "rel" & "sub" ∶ S) ∷ []) ∷
    -- 42
    (over-1 λ S. ⟨ Pass ⟩ cat "relr" & "sub" ∶ S ⟶ Sub (cat "relo" & "sub" ∶ S) ∷ []) ∷
    -- 43
    (over-1 λ S. ⟨ Or ⟩ cat "relr" & "sub" ∶ S ⟶ Sub (cat "relo" & "sub" ∶ S) ∷ token "or" ∷ Sub (cat "relr" & "sub" ∶ S) ∷ []) ∷
    -- 44
    (over-1 λ S. ⟨ Pass ⟩ cat "rel" & "sub" ∶ S ⟶ Sub (cat "rp") ∷ Sub (cat "vp" & "num" ≔ "sg" & "sub" ∶ S) ∷ []) ∷
    -- 45
    (over-1 λ S. ⟨ Gap ⟩ cat "rel" & "sub" ∶ S ⟿ Sub (cat "rp") ∷ Sub (cat "np") ∷ Preterminal (cat "verb" & "form" ≔ "third") ∷ []) ∷
    -- 46
    (⟨ Mark ⟩ cat "rp" ⟶ token "that" ∷ []) ∷
    -- 47
    (⟨ Mark ⟩ cat "rp" ⟶ token "who" ∷ []) ∷
    []

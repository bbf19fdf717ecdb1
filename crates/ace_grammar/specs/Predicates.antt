-- Predicates after `is`: rules 26 to 37.
use Rattle.std.specs.Prelude.{List, [], ◌∷◌}
use Rattle.codeco_terms.specs.declared.elements.Element.TheVariants.{Preterminal, Sub}
use Rattle.codeco_terms.specs.declared.rules.Rule.{Rule}
use Rattle.codeco_terms.specs.declared.rules.Label.TheVariants.{Done, Does, Pass, Top, Same, Mark, Class}
use Rattle.ace_grammar.specs.Notation.{over-1, over-2, ⟨◌⟩◌⟶◌, cat, ◌∶◌, ◌≔◌, ◌&◌, token}

unfoldable pub predicates : List Rule
predicates =
    -- 26
    (over-1 λ S. ⟨ Done ⟩ cat "pr" & "sub" ∶ S ⟶ Preterminal (cat "verb" & "form" ≔ "part") ∷ token "by" ∷ Sub (cat "obj" & "sub" ∶ S) ∷ []) ∷
    -- 27
    (over-1 λ S. ⟨ Does ⟩ cat "pr" & "sub" ∶ S ⟶ Preterminal (cat "adj") ∷ Sub (cat "obj" & "sub" ∶ S) ∷ []) ∷
    -- 28
    (over-2 λ S V. ⟨ Pass ⟩ cat "pr" & "num" ≔ "sg" & "sub" ∶ S ⟶ Sub (cat "det" & "vow" ∶ V) ∷ Sub (cat "pb" & "vow" ∶ V & "sub" ∶ S) ∷ []) ∷
    -- 29
    (⟨ Top ⟩ cat "pr" & "num" ≔ "sg" ⟶ token "something" ∷ []) ∷
    -- 30
    (over-1 λ S. ⟨ Pass ⟩ cat "pr" & "num" ≔ "sg" & "sub" ∶ S ⟶ token "something" ∷ Sub (cat "rels" & "sub" ∶ S) ∷ []) ∷
    -- 31
    (⟨ Same ⟩ cat "pr" & "num" ≔ "sg" ⟶ Sub (cat "term") ∷ []) ∷
    -- 32
    (over-1 λ S. ⟨ Same ⟩ cat "pr" & "num" ≔ "sg" & "sub" ∶ S ⟶ Sub (cat "pron" & "sub" ∶ S) ∷ []) ∷
    -- 33
    (⟨ Mark ⟩ cat "det" & "vow" ≔ "no" ⟶ token "a" ∷ []) ∷
    -- 34
    (⟨ Mark ⟩ cat "det" & "vow" ≔ "yes" ⟶ token "an" ∷ []) ∷
    -- 35
    (over-1 λ V. ⟨ Class ⟩ cat "pb" & "vow" ∶ V ⟶ Preterminal (cat "noun" & "num" ≔ "sg" & "vow" ∶ V) ∷ []) ∷
    -- 36
    (over-2 λ V S. ⟨ Class ⟩ cat "pb" & "vow" ∶ V & "sub" ∶ S ⟶ Preterminal (cat "noun" & "num" ≔ "sg" & "vow" ∶ V) ∷ Sub (cat "rels" & "sub" ∶ S) ∷ []) ∷
    -- 37
    (over-2 λ V S. ⟨ Does ⟩ cat "pb" & "vow" ∶ V & "sub" ∶ S ⟶ Preterminal (cat "of" & "vow" ∶ V) ∷ token "of" ∷ Sub (cat "obj" & "sub" ∶ S) ∷ []) ∷
    []

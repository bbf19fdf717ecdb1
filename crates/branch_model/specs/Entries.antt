-- Words with lists, in order of the words. Only private calls speak of it.
use Rattle.std.specs.Prelude.{◌==◌, List, [], ◌∷◌, ◌++◌, nat_lt, if◌then◌else◌}
use Rattle.wiki_base.specs.declared.numbers.WordId.{WordId}

-- one more item at the end of a word's list
abbrev pub placed : {X : Type 0} → WordId → X → List (WordId × List X) → List (WordId × List X)
placed word x [] = (word, x ∷ []) ∷ []
placed word x (e ∷ es) =
    if nat_lt e.0.0 word.0 then e ∷ placed word x es
    else if e.0.0 == word.0 then (e.0, e.1 ++ x ∷ []) ∷ es
    else (word, x ∷ []) ∷ e ∷ es

-- The names of the kinds of words.
use Rattle.std.specs.Prelude.{List, ℕ, [], ◌∷◌, codes, find, Option}
use Rattle.std.specs.Str.{bytes_eq}
use Rattle.lexicon.specs.declared.kinds.Kind.{Kind}
use Rattle.lexicon.specs.declared.kinds.Kind.TheVariants.{Name, Noun, Of, Verb, Adjective}

abbrev pub kind_name : Kind → List ℕ
kind_name Name = codes "name"
kind_name Noun = codes "noun"
kind_name Of = codes "of"
kind_name Verb = codes "verb"
kind_name Adjective = codes "adjective"

-- the kind that has this name
abbrev pub kind_named : List ℕ → Option Kind
kind_named name = find (λ kind. bytes_eq name (kind_name kind)) (Name ∷ Noun ∷ Of ∷ Verb ∷ Adjective ∷ [])

-- The first class word among the members of an intersection, by its place. Only private calls speak of it.
use Rattle.std.specs.Prelude.{ℕ, ◌≡◌, ◌<◌, List, length, remove, Some}
use Rattle.wiki_base.specs.declared.numbers.WordId.{WordId}
use Rattle.logic_terms.specs.Concept.{Concept, concepts_from}
use Rattle.absorb.specs.Pieces.{first_word, without_first_word}

pub record IsFirstWord (cs : List Concept) (place : ℕ) (word : WordId) : Type 0 where
  pub within : place < length cs
  pub first : first_word (concepts_from cs) ≡ Some word
  pub others : without_first_word (concepts_from cs) ≡ concepts_from (remove cs place)

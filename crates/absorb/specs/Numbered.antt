-- Words by their numbers. Only private calls speak of it.
use Rattle.std.specs.Prelude.{ℕ}
use Rattle.wiki_base.specs.declared.numbers.WordId.{WordId}

abbrev pub numbered : ℕ → WordId
numbered n = record { 0 = n }

abbrev pub number_of : WordId → ℕ
number_of word = word.0

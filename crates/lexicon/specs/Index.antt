-- The table by which a lexicon finds the word that has a form.
use Rattle.std.specs.Prelude.{◌≡◌, ℕ, List}
use Rattle.std.specs.HashMap.{HashMap, get_by_text}
use Rattle.std.specs.Prelude.{String}
use Rattle.std.specs.declared.alloc.Global.{Global}
use Rattle.std.specs.declared.hash.FoldHasher.{FoldHasher}
use Rattle.std.specs.declared.hash.BuildHasherDefault.{BuildHasherDefault}
use Rattle.wiki_base.specs.declared.numbers.WordId.{WordId}
use Rattle.lexicon.specs.declared.words.Word.{Word}
use Rattle.lexicon.specs.Words.{owner}

-- from the bytes of forms to the numbers of words
abbrev pub Index : Type 0
Index = HashMap (String Global) WordId (BuildHasherDefault FoldHasher)

-- the table finds for each text the word that has it as a form
abbrev pub Indexes : List Word → Index → Type 0
Indexes live index = (text : List ℕ) → get_by_text index text ≡ owner live text

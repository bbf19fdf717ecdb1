use Rattle.std.proofs.Common.{◌≡◌, take, map}
use Rattle.lexicon.specs.declared.words.Word.{Word}
use Rattle.plain_wiki.specs.Words.{told_word}
use Rattle.wiki_parts.proofs.told.told_words.Given as goal

-- the words so far
abbrev pub invariant-loop-place : goal.invariant-loop-place
invariant-loop-place l = l.told.items ≡ map (λ (word : Word). told_word word.forms) (take l.place l.lexicon.live)

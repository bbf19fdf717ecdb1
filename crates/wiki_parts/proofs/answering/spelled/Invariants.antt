use Rattle.std.proofs.Common.{◌≡◌, take}
use Rattle.plain_wiki.specs.Telling.{spelled}
use Rattle.wiki_parts.proofs.answering.spelled.Given as goal

-- the forms of the words so far
abbrev pub invariant-loop-place : goal.invariant-loop-place
invariant-loop-place l = l.texts ≡ spelled l.lexicon (take l.place l.names)

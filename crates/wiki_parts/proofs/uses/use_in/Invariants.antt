use Rattle.std.proofs.Common.{◌≡◌, ◌≤◌, drop, find}
use Rattle.plain_wiki.specs.Places.{placed_in, placed_from}
use Rattle.plain_wiki.specs.Causes.{uses_word}
use Rattle.wiki_parts.proofs.uses.use_in.Given as goal

-- the first use is the first of what is left
abbrev pub invariant-loop-place : goal.invariant-loop-place
invariant-loop-place l = find (uses_word l.word l.forms) (placed_in l.article)
    ≡ find (uses_word l.word l.forms) (placed_from l.article.word l.place (drop l.place l.article.sentences))

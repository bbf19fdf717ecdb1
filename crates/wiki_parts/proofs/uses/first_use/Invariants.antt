use Rattle.std.proofs.Common.{◌≡◌, drop, find}
use Rattle.plain_wiki.specs.Places.{all_placed}
use Rattle.plain_wiki.specs.Causes.{uses_word}
use Rattle.wiki_parts.proofs.uses.first_use.Given as goal

-- the first use is the first of what is left
abbrev pub invariant-loop-article : goal.invariant-loop-article
invariant-loop-article l = find (uses_word l.word l.forms) (all_placed l.articles)
    ≡ find (uses_word l.word l.forms) (all_placed (drop l.article-index l.articles))

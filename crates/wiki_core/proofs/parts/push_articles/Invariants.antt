use Rattle.std.proofs.Common.{◌≡◌, ◌++◌, drop}
use Rattle.wiki_core.specs.Counting.{plain_parts, parts_in}
use Rattle.wiki_core.proofs.parts.push_articles.Given as goal

-- what was added, and what the articles that are left add, is what all add
abbrev pub invariant-loop-place : goal.invariant-loop-place
invariant-loop-place l =
    plain_parts l.parts ++ parts_in l.taken (drop l.place l.articles) (drop l.place l.senses)
    ≡ plain_parts l.initial.parts ++ parts_in l.taken l.articles l.senses

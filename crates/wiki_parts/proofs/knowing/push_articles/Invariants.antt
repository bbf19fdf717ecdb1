use Rattle.std.proofs.Common.{◌≡◌, ◌++◌, drop}
use Rattle.logic_terms.specs.Shown.{claims_of}
use Rattle.wiki_parts.specs.Kept.{known_in}
use Rattle.wiki_parts.proofs.knowing.push_articles.Given as goal

-- what was added, and what the articles that are left add, is what all add
abbrev pub invariant-loop-place : goal.invariant-loop-place
invariant-loop-place l =
    claims_of l.known ++ known_in (drop l.place l.articles) (drop l.place l.senses) ≡ claims_of l.initial.known ++ known_in l.articles l.senses

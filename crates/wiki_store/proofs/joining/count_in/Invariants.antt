use Rattle.std.proofs.Common.{◌≡◌, ◌+◌, length, drop}
use Rattle.wiki_parts.specs.Kept.{known_in}
use Rattle.wiki_store.proofs.joining.count_in.Given as goal

-- what was counted, and what the articles that are left add, is what all add
abbrev pub invariant-loop-place : goal.invariant-loop-place
invariant-loop-place l = l.count + length (known_in (drop l.place l.articles) (drop l.place l.senses)) ≡ length (known_in l.articles l.senses)

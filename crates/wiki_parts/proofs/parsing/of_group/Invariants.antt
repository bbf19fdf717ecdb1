use Rattle.std.proofs.Common.{◌≡◌, take}
use Rattle.plain_wiki.specs.Parsing.{of_group}
use Rattle.wiki_parts.proofs.parsing.of_group.Given as goal

-- the tokens so far
abbrev pub invariant-loop-place : goal.invariant-loop-place
invariant-loop-place l = l.texts ≡ of_group l.group (take l.place l.menu)

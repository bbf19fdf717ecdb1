use Rattle.std.proofs.Common.{◌≡◌, take}
use Rattle.wiki_parts.proofs.NameLemmas.{names_among}
use Rattle.wiki_parts.proofs.names.live_names.Given as goal

-- the names among the words so far
abbrev pub invariant-loop-place : goal.invariant-loop-place
invariant-loop-place l = l.names ≡ names_among (take l.place l.lexicon.live)

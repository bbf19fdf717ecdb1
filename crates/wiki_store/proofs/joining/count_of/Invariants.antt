use Rattle.std.proofs.Common.{◌≡◌, ◌+◌, length, drop}
use Rattle.wiki_parts.specs.Kept.{known_of, meanings_in}
use Rattle.wiki_store.proofs.joining.count_of.Given as goal

-- what was counted, and what the sentences that are left add, is what all add
abbrev pub invariant-loop-place : goal.invariant-loop-place
invariant-loop-place l =
    l.count + length (known_of (drop l.place l.sentences) (meanings_in (drop l.place l.senses))) ≡ length (known_of l.sentences (meanings_in l.senses))

use Rattle.std.proofs.Common.{◌≡◌, ◌++◌, drop}
use Rattle.wiki_parts.specs.Kept.{meanings_in}
use Rattle.wiki_core.specs.Counting.{plain_parts, parts_from}
use Rattle.wiki_core.proofs.parts.push_sentences.Given as goal

-- what was added, and what the sentences that are left add, is what all add
abbrev pub invariant-loop-at : goal.invariant-loop-at
invariant-loop-at l =
    plain_parts l.parts ++ parts_from l.taken l.word l.at (drop l.at l.sentences) (meanings_in (drop l.at l.senses))
    ≡ plain_parts l.initial.parts ++ parts_from l.taken l.word 0 l.sentences (meanings_in l.senses)

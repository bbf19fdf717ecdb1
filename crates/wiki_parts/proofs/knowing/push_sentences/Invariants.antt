use Rattle.std.proofs.Common.{◌≡◌, ◌++◌, drop}
use Rattle.logic_terms.specs.Shown.{claims_of}
use Rattle.wiki_parts.specs.Kept.{known_of, meanings_in}
use Rattle.wiki_parts.proofs.knowing.push_sentences.Given as goal

-- what was added, and what the sentences that are left add, is what all add
abbrev pub invariant-loop-place : goal.invariant-loop-place
invariant-loop-place l =
    claims_of l.known ++ known_of (drop l.place l.sentences) (meanings_in (drop l.place l.senses))
    ≡ claims_of l.initial.known ++ known_of l.sentences (meanings_in l.senses)

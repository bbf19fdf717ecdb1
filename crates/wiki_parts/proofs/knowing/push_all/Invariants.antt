use Rattle.std.proofs.Common.{◌≡◌, ◌++◌, take}
use Rattle.logic_terms.specs.Shown.{claims_of}
use Rattle.wiki_parts.proofs.knowing.push_all.Given as goal

-- the axioms so far were added
abbrev pub invariant-loop-place : goal.invariant-loop-place
invariant-loop-place l = claims_of l.known ≡ claims_of l.initial.known ++ take l.place (claims_of l.more)

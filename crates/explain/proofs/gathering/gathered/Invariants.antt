use Rattle.std.proofs.Common.{◌≡◌, map, take}
use Rattle.logic_terms.specs.Shown.{claim_of}
use Rattle.explain.specs.Answers.{claims_in}
use Rattle.explain.specs.Reasons.{stated_at}
use Rattle.explain.proofs.gathering.gathered.Given as goal

abbrev pub invariant-loop-place : goal.invariant-loop-place
invariant-loop-place l = map claim_of l.items.items ≡ stated_at (claims_in l.parts) (take l.place-index l.places)

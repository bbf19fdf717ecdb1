use Rattle.std.proofs.Common.{◌≡◌}
use Rattle.explain.specs.Reasons.{places_from}
use Rattle.explain.proofs.gathering.first_places.Given as goal

abbrev pub invariant-loop-place : goal.invariant-loop-place
invariant-loop-place l = l.places ≡ places_from 0 l.place

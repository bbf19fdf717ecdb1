use Rattle.std.proofs.Common.{◌≡◌, take}
use Rattle.explain.specs.Reasons.{without}
use Rattle.explain.proofs.gathering.others.Given as goal

abbrev pub invariant-loop-other : goal.invariant-loop-other
invariant-loop-other l = l.others ≡ without l.place (take l.other-index l.places)

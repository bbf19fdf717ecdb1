use Rattle.std.proofs.Common.{◌≡◌, take, map}
use Rattle.absorb.specs.Renamed.{renamed}
use Rattle.absorb.proofs.representatives.rename.Given as goal

abbrev pub invariant-loop-entry : goal.invariant-loop-entry
invariant-loop-entry l = l.made.items ≡ map (renamed l.gone l.stays) (take l.entry-index l.entries)

use Rattle.socket_link.specs.Kept.{AreTakenBelow}
use Rattle.socket_link.proofs.switchboard.Switchboard.are_all_taken.Given as goal

abbrev pub invariant-loop-number : goal.invariant-loop-number
invariant-loop-number g l = AreTakenBelow l.self.places.items l.number

use Rattle.socket_link.specs.Kept.{AreFree}
use Rattle.socket_link.proofs.switchboard.free_places.Given as goal

abbrev pub invariant-loop : goal.invariant-loop
invariant-loop l = AreFree l.places.items

use Rattle.std.specs.Duration.{as_nanos}
use Rattle.socket_link.proofs.SoundLemmas.{board_same}
use Rattle.socket_link.proofs.switchboard.Switchboard.listen.Goals as goal

pub invariant_of-self : goal.invariant_of-self
invariant_of-self g c = record {
  sound = board_same c.args.self.now.places.items (as_nanos c.args.self.now.clock) _ _ c.args.self.now.sound c.listen.ensures.deeds;
}

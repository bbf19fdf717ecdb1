use Rattle.std.specs.Duration.{as_nanos}
use Rattle.socket_link.proofs.SoundLemmas.{board_same, board_showing}
use Rattle.socket_link.proofs.switchboard.Switchboard.read_clock.Goals as goal

pub invariant_of-self : goal.invariant_of-self
invariant_of-self g c =
    let board = c.args.self.now in
    record { sound = board_showing board.places.items (as_nanos board.clock) _ _ board.sound (as_nanos c.in-Some.now) c.in-Some.ensures.deeds }

pub invariant_of-self-in-None : goal.invariant_of-self-in-None
invariant_of-self-in-None g c =
    let board = c.args.self.now in
    record { sound = board_same board.places.items (as_nanos board.clock) _ _ board.sound c.in-None.ensures.deeds }

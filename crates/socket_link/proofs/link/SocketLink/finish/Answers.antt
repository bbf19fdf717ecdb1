use Rattle.std.specs.Duration.{as_nanos}
use Rattle.socket_link.proofs.RightLemmas.{right_told}
use Rattle.socket_link.proofs.link.SocketLink.finish.Goals as goal

pub returns-clause-right : goal.returns-clause-right
returns-clause-right g c =
    let board = c.finish.new.self.board in
    right_told board.places.items (as_nanos board.clock) _ board.sound

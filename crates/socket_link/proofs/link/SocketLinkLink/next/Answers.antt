use Rattle.std.specs.Duration.{as_nanos}
use Rattle.socket_link.proofs.RightLemmas.{right_told}
use Rattle.socket_link.proofs.link.SocketLinkLink.next.Goals as goal

pub returns-in_default-clause-right : goal.returns-in_default-clause-right
returns-in_default-clause-right g c =
    let board = c.hand_in.new.self.places.board in
    right_told board.places.items (as_nanos board.clock) _ board.sound

pub returns-clause-right : goal.returns-clause-right
returns-clause-right g c =
    let board = c.loop-test.self.places.board in
    right_told board.places.items (as_nanos board.clock) _ board.sound

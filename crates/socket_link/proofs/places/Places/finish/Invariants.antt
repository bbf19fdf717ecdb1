use Rattle.std.proofs.Common.{◌≡◌}
use Rattle.socket_link.specs.Deeds.{sent_in}
use Rattle.socket_link.proofs.places.Places.finish.Given as goal

abbrev pub invariant-loop : goal.invariant-loop
invariant-loop g l =
    let sockets = g.S.Sockets in
    record {
      sent : sent_in (sockets.deeds l.self.board.sockets) ≡ sent_in (sockets.deeds l.initial.self.board.sockets);
      events : sockets.events l.self.board.sockets ≡ sockets.events l.initial.self.board.sockets;
      listening : sockets.listens_at l.self.board.sockets ≡ sockets.listens_at l.initial.self.board.sockets;
    }

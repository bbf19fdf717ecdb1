use Rattle.std.proofs.Common.{◌≡◌, length}
use Rattle.socket_link.specs.Deeds.{sent_in}
use Rattle.socket_link.proofs.link.SocketLinkLink.next.Given as goal

abbrev pub invariant-loop : goal.invariant-loop
invariant-loop g l =
    let sockets = g.S.Sockets in
    record {
      connections : l.self.connections.items ≡ l.initial.self.connections.items;
      room : length l.buf ≡ length l.initial.buf;
      faults : l.self.faults ≡ l.initial.self.faults;
      send_faults : l.self.send_faults ≡ l.initial.self.send_faults;
      events : sockets.events l.self.places.board.sockets ≡ sockets.events l.initial.self.places.board.sockets;
      sent : sent_in (sockets.deeds l.self.places.board.sockets) ≡ sent_in (sockets.deeds l.initial.self.places.board.sockets);
      listening : sockets.listens_at l.self.places.board.sockets ≡ sockets.listens_at l.initial.self.places.board.sockets;
    }

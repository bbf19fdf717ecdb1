use Rattle.std.proofs.Common.{◌≡◌}
use Rattle.socket_link.specs.Kept.{left_in}
use Rattle.socket_link.proofs.place.Place.drain.Given as goal

abbrev pub invariant-loop : goal.invariant-loop
invariant-loop g l =
    let sockets = g.S.Sockets in
    record {
      left : left_in l.self ≡ left_in l.initial.self;
      closed : l.self.is_closed ≡ l.initial.self.is_closed;
      shut : l.self.is_shut ≡ l.initial.self.is_shut;
      due : l.self.due ≡ l.initial.self.due;
      deeds : sockets.deeds l.sockets ≡ sockets.deeds l.initial.sockets;
      events : sockets.events l.sockets ≡ sockets.events l.initial.sockets;
      listening : sockets.listens_at l.sockets ≡ sockets.listens_at l.initial.sockets;
    }

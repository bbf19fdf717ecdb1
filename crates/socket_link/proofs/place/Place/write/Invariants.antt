use Rattle.std.proofs.Common.{◌≡◌, ◌<◌, IsTrue}
use Rattle.std.specs.Duration.{as_nanos}
use Rattle.socket_link.specs.Kept.{IsServed, OnlyOn}
use Rattle.socket_link.proofs.place.Place.write.Given as goal

abbrev pub invariant-loop : goal.invariant-loop
invariant-loop g l =
    let sockets = g.S.Sockets in
    record {
      served : IsServed l.number l.self (as_nanos l.fn.now) (sockets.deeds l.sockets);
      others : OnlyOn l.number (sockets.deeds l.initial.sockets) (sockets.deeds l.sockets);
      closed : l.self.is_closed ≡ l.initial.self.is_closed;
      due : l.self.due ≡ l.initial.self.due;
      events : sockets.events l.sockets ≡ sockets.events l.initial.sockets;
      listening : sockets.listens_at l.sockets ≡ sockets.listens_at l.initial.sockets;
    }

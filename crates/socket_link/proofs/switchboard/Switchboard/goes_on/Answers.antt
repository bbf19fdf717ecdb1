use Rattle.std.proofs.Common.{◌≡◌, true, Some, slice_set}
use Rattle.std.specs.Duration.{as_nanos}
use Rattle.socket_link.proofs.SoundLemmas.{board_after, board_served, only_sent, via, closed_here, put_back}
use Rattle.socket_link.proofs.switchboard.Switchboard.goes_on.Goals as goal

pub wind_up-goes_on-requires-clause-closed : goal.wind_up-goes_on-requires-clause-closed
wind_up-goes_on-requires-clause-closed g c =
    closed_here c.args.self.now.places.items c.args.number c.in-Some.place (c.is_closed.ensures c.if-not-is_closed.false) c.in-Some.ensures.found

pub wind_up-goes_on-requires-clause-served : goal.wind_up-goes_on-requires-clause-served
wind_up-goes_on-requires-clause-served g c =
    let board = c.args.self.now in
    board_served board.places.items (as_nanos board.clock) (g.S.Sockets.deeds board.sockets) (g.S.Sockets.deeds board.sockets) board.sound c.args.number
    c.in-Some.place c.in-Some.ensures.found

pub invariant_of-self-2 : goal.invariant_of-self-2
invariant_of-self-2 g c =
    let board = c.args.self.now in
    let places = board.places.items in
    let n = c.args.number in
    let old = c.in-Some.place in
    let new = c.wind_up-goes_on.new.self in
    record {
      sound =
          via (as_nanos board.clock) _ _ (slice_set places n (Some new)) (put_back _ _ places n new c.in-Some.ensures.lifted c.put.ensures)
          (board_after places (as_nanos board.clock) _ _ board.sound n old new c.in-Some.ensures.found c.wind_up-goes_on.ensures.served
          c.wind_up-goes_on.ensures.others);
    }

pub returns-clause-sent : goal.returns-clause-sent
returns-clause-sent g c = only_sent c.args.number _ _ c.wind_up-goes_on.ensures.others

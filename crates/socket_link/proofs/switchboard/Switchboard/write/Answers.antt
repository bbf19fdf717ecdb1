use Rattle.std.proofs.Common.{Some, slice_set}
use Rattle.std.specs.Duration.{as_nanos}
use Rattle.socket_link.proofs.SoundLemmas.{board_after, board_served, only_sent, via, put_back}
use Rattle.socket_link.proofs.switchboard.Switchboard.write.Goals as goal

pub write-requires-clause-served : goal.write-requires-clause-served
write-requires-clause-served g c =
    let board = c.args.self.now in
    board_served board.places.items (as_nanos board.clock) (g.S.Sockets.deeds board.sockets) (g.S.Sockets.deeds board.sockets) board.sound c.args.number
    c.in-Some.place c.in-Some.ensures.found

pub invariant_of-self-2 : goal.invariant_of-self-2
invariant_of-self-2 g c =
    let board = c.args.self.now in
    let places = board.places.items in
    let n = c.args.number in
    let old = c.in-Some.place in
    let new = c.write.new.self in
    record {
      sound =
          via (as_nanos board.clock) _ _ (slice_set places n (Some new)) (put_back _ _ places n new c.in-Some.ensures.lifted c.put.ensures)
          (board_after places (as_nanos board.clock) _ _ board.sound n old new c.in-Some.ensures.found c.write.ensures.served c.write.ensures.others);
    }

pub returns-clause-sent : goal.returns-clause-sent
returns-clause-sent g c = only_sent c.args.number _ _ c.write.ensures.others

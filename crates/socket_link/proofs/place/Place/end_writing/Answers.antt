use Rattle.std.proofs.Common.{◌≡◌, refl, ◌≤◌, arith, length, []}
use Rattle.std.specs.Duration.{as_nanos}
use Rattle.std.proofs.Math.ListN.{drop_of_length-le}
use Rattle.socket_link.specs.Kept.{left_in}
use Rattle.socket_link.proofs.SoundLemmas.{served_shutting, served_still, free_written, only_same}
use Rattle.socket_link.proofs.place.Place.end_writing.Goals as goal

pub returns-clause-served : goal.returns-clause-served
returns-clause-served g c =
    let place = c.args.self.now in
    let past : length place.unsent.items ≤ place.written = omega (arith, c.if-self-len.false, c.len.ensures) in
    served_shutting c.args.number (left_in place) place.is_closed place.is_shut (as_nanos place.due) (as_nanos c.args.now)
    (g.S.Sockets.deeds c.args.sockets.now)
    (g.S.Sockets.deeds c.shut.new.self) c.requires.served _ _ c.requires.closed (drop_of_length-le place.unsent.items past) c.shut.ensures.deeds

pub returns-clause-others : goal.returns-clause-others
returns-clause-others g c = only_same c.args.number _ _ c.shut.ensures.deeds

pub returns-then-not-shut-clause-done : goal.returns-then-not-shut-clause-done
returns-then-not-shut-clause-done g c = λ _.
    let place = c.args.self.now in
    let past : length place.unsent.items ≤ place.written = omega (arith, c.if-self-len.false, c.len.ensures) in
    free_written c.args.number (left_in place) place.is_closed place.is_shut (as_nanos place.due) (as_nanos c.args.now) (g.S.Sockets.deeds c.args.sockets.now)
    (g.S.Sockets.deeds c.shut.new.self) c.requires.served (drop_of_length-le place.unsent.items past) c.shut.ensures.deeds

use Rattle.std.proofs.Common.{◌≡◌, refl, false, Some, slice_set}
use Rattle.std.specs.Duration.{as_nanos}
use Rattle.socket_link.proofs.SoundLemmas.{board_due, via, open_here, put_back}
use Rattle.socket_link.proofs.switchboard.Switchboard.leaves.Goals as goal

pub invariant_of-self-2 : goal.invariant_of-self-2
invariant_of-self-2 g c =
    let board = c.args.self.now in
    let places = board.places.items in
    let n = c.args.number in
    let old = c.in-Some.place in
    let new = c.leaves.new.self in
    let not_closed : old.is_closed ≡ false = open_here places n old (c.is_open.ensures c.if-not-is_open.false) c.in-Some.ensures.found in
    record {
      sound =
          via (as_nanos board.clock) _ _ (slice_set places n (Some new)) (put_back _ _ places n new c.in-Some.ensures.lifted c.put.ensures)
          (board_due places (as_nanos board.clock) _ _ board.sound n old new c.in-Some.ensures.found not_closed c.leaves.ensures.left c.leaves.ensures.closed
          c.leaves.ensures.shut refl);
    }

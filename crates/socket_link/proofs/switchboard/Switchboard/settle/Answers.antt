use Rattle.std.proofs.Common.{◌≡◌, None, Some, ap, ◌∙◌, slice_get, slice_set}
use Rattle.std.specs.Duration.{as_nanos}
use Rattle.socket_link.specs.Kept.{IsFree}
use Rattle.socket_link.proofs.SoundLemmas.{board_opening, via}
use Rattle.socket_link.proofs.switchboard.Switchboard.settle.Goals as goal

pub invariant_of-self-2 : goal.invariant_of-self-2
invariant_of-self-2 g c =
    let board = c.read_clock.new.self in
    let places = board.places.items in
    let n = c.args.number in
    let new = c.new-place.result in
    let free : IsFree places n = ap (λ v. slice_get v.items n) c.read_clock.ensures.places ∙ c.requires in
    record {
      sound =
          via (as_nanos board.clock) _ _ (slice_set places n (Some new)) c.put.ensures
          (board_opening places (as_nanos board.clock) _ _ board.sound n new free c.new-place.ensures.left c.new-place.ensures.closed c.new-place.ensures.shut
          c.if-not-settle.ensures.deeds);
    }

use Rattle.std.proofs.Common.{◌≡◌, false, Some, slice_set, ◌∙◌}
use Rattle.std.specs.Duration.{as_nanos}
use Rattle.socket_link.proofs.SoundLemmas.{board_due, via, open_here, open_via, put_back}
use Rattle.socket_link.proofs.switchboard.Switchboard.hear.Goals as goal

pub invariant_of-self-2 : goal.invariant_of-self-2
invariant_of-self-2 g c =
    let board = c.args.self.now in
    let places = board.places.items in
    let n = c.args.number in
    let old = c.in-Some.place in
    let new = c.hear-heard.new.self in
    let not_closed : old.is_closed ≡ false = open_here places n old (c.is_open.ensures c.if-not-is_open.false) c.in-Some.ensures.found in
    record {
      sound =
          via (as_nanos board.clock) _ _ (slice_set places n (Some new)) (put_back _ _ places n new c.in-Some.ensures.lifted c.put.ensures)
          (board_due places (as_nanos board.clock) _ _ board.sound n old new c.in-Some.ensures.found not_closed c.hear-heard.ensures.left
          c.hear-heard.ensures.closed
          c.hear-heard.ensures.shut c.hear-heard.ensures.deeds);
    }

pub returns-clause-ended : goal.returns-clause-ended
returns-clause-ended g c = λ _.
    let places = c.args.self.now.places.items in
    let n = c.args.number in
    let old = c.in-Some.place in
    let new = c.hear-heard.new.self in
    let not_closed : old.is_closed ≡ false = open_here places n old (c.is_open.ensures c.if-not-is_open.false) c.in-Some.ensures.found in
    open_via _ places n old new (put_back _ _ places n new c.in-Some.ensures.lifted c.put.ensures) c.in-Some.ensures.found
    (c.hear-heard.ensures.closed ∙ not_closed)

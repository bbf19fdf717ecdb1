use Rattle.std.proofs.Common.{◌≡◌, ◌≤◌, sym, subst, ◌∙◌, arith, true}
use Rattle.std.specs.Duration.{as_nanos}
use Rattle.socket_link.specs.Kept.{left_in, IsFreeToGo}
use Rattle.socket_link.proofs.SoundLemmas.{free_over, free_failed, free_shut}
use Rattle.socket_link.proofs.place.Place.wind_up.Goals as goal

pub returns-then-is_over-clause-done : goal.returns-then-is_over-clause-done
returns-then-is_over-clause-done g c = λ _.
    let place = c.args.self.now in
    let told = g.S.Sockets.deeds c.args.sockets.now in
    let over : as_nanos place.due ≤ as_nanos c.args.now = omega (arith, c.if-is_over.true, c.as_nanos.ensures, c.as_nanos-2.ensures) in
    free_over c.args.number (left_in place) place.is_closed place.is_shut (as_nanos place.due) (as_nanos c.args.now) told told c.requires.served
    c.requires.closed over

pub returns-then-not-write-clause-done : goal.returns-then-not-write-clause-done
returns-then-not-write-clause-done g c = λ _. free_failed c.args.number _ (c.write.ensures.failed c.if-not-write.true)

pub returns-then-not-self-2-clause-done : goal.returns-then-not-self-2-clause-done
returns-then-not-self-2-clause-done g c = λ _.
    let place = c.end_writing.new.self in
    let told = g.S.Sockets.deeds c.end_writing.new.sockets in
    let shut : place.is_shut ≡ true = sym c.drain.ensures.shut ∙ c.if-not-self.false in
    subst (IsFreeToGo c.args.number) (sym c.drain.ensures.deeds)
    (free_shut c.args.number (left_in place) place.is_closed place.is_shut (as_nanos place.due) (as_nanos c.args.now) told told c.end_writing.ensures.served
    shut)

pub returns-else-not-self-2-clause-done : goal.returns-else-not-self-2-clause-done
returns-else-not-self-2-clause-done g c = λ _.
    let place = c.end_writing.new.self in
    let told = g.S.Sockets.deeds c.end_writing.new.sockets in
    let shut : place.is_shut ≡ true = sym c.drain.ensures.shut ∙ c.if-not-self.false in
    subst (IsFreeToGo c.args.number) (sym c.drain.ensures.deeds)
    (free_shut c.args.number (left_in place) place.is_closed place.is_shut (as_nanos place.due) (as_nanos c.args.now) told told c.end_writing.ensures.served
    shut)

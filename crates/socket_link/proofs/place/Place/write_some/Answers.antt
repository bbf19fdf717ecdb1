use Rattle.std.proofs.Common.{◌≡◌, refl, sym, ap, subst, ◌∙◌, arith, ◌<◌, ◌+◌, List, ℕ, length, take, drop}
use Rattle.std.specs.Duration.{as_nanos}
use Rattle.std.proofs.lemmas.List.{drop-drop, length-drop}
use Rattle.socket_link.specs.Deeds.{Writes, Fails, with_deed}
use Rattle.socket_link.specs.Kept.{left_in}
use Rattle.socket_link.proofs.DeedLemmas.{touches_failing}
use Rattle.socket_link.proofs.SoundLemmas.{slice_rest, served_writing, served_failing, served_still, failed_then, only_deed}
use Rattle.socket_link.proofs.place.Place.write_some.Goals as goal

pub returns-in-Bytes-clause-served : goal.returns-in-Bytes-clause-served
returns-in-Bytes-clause-served g c =
    let place = c.args.self.now in
    let number = c.args.number in
    let size = c.in-Bytes.size in
    let told = g.S.Sockets.deeds c.args.sockets.now in
    let told_after = g.S.Sockets.deeds c.write.new.self in
    let Wrote : List ℕ → Type 0 = λ bytes. told_after ≡ with_deed told (Writes number (take size bytes)) in
    let wrote : Wrote (left_in place) = subst Wrote (slice_rest place.written c.deref.result.now ∙ ap (λ items. drop place.written items) c.deref.ensures.value)
    c.in-Bytes.ensures.deeds in
    let some : 0 < length (left_in place) = omega (arith, length-drop place.written place.unsent.items, c.if-self-len.false, c.len.ensures) in
    served_writing number (left_in place) place.is_closed place.is_shut (as_nanos place.due) (as_nanos c.args.now) told told_after c.requires.served size
    (drop (place.written + size) place.unsent.items) some c.requires.in_time (sym (drop-drop size place.written place.unsent.items)) wrote

pub returns-in-End-clause-served : goal.returns-in-End-clause-served
returns-in-End-clause-served g c =
    let place = c.args.self.now in
    let told = g.S.Sockets.deeds c.args.sockets.now in
    let told_after = g.S.Sockets.deeds c.write.new.self in
    served_failing c.args.number (left_in place) place.is_closed place.is_shut (as_nanos place.due) (as_nanos c.args.now) told told_after c.requires.served
    c.in-End.ensures.deeds

pub returns-in-End-clause-failed : goal.returns-in-End-clause-failed
returns-in-End-clause-failed g c = λ _.
    let place = c.args.self.now in
    let told = g.S.Sockets.deeds c.args.sockets.now in
    let told_after = g.S.Sockets.deeds c.write.new.self in
    failed_then c.args.number (left_in place) place.is_closed place.is_shut (as_nanos place.due) (as_nanos c.args.now) told told_after c.requires.served
    c.in-End.ensures.deeds

pub returns-in-End-clause-others : goal.returns-in-End-clause-others
returns-in-End-clause-others g c =
    only_deed c.args.number _ _ (Fails c.args.number) (λ deeds. touches_failing c.args.number deeds) c.in-End.ensures.deeds

pub returns-in-Nothing-clause-served : goal.returns-in-Nothing-clause-served
returns-in-Nothing-clause-served g c =
    let place = c.args.self.now in
    let told = g.S.Sockets.deeds c.args.sockets.now in
    let told_after = g.S.Sockets.deeds c.write.new.self in
    served_still c.args.number (left_in place) place.is_closed place.is_shut (as_nanos place.due) (as_nanos c.args.now) told told_after c.requires.served
    (left_in place) refl c.in-Nothing.ensures.deeds

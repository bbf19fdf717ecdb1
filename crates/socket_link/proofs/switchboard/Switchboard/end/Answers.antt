use Rattle.std.proofs.Common.{sym, subst, List, Option}
use Rattle.std.specs.Prelude.{IfSome}
use Rattle.std.specs.Duration.{as_nanos}
use Rattle.socket_link.specs.declared.place.Place.{Place}
use Rattle.socket_link.specs.Kept.{IsSound}
use Rattle.socket_link.proofs.SoundLemmas.{board_going, board_open}
use Rattle.socket_link.proofs.switchboard.Switchboard.end.Goals as goal

pub invariant_of-self : goal.invariant_of-self
invariant_of-self g c =
    let board = c.args.self.now in
    let now = as_nanos board.clock in
    let told = g.S.Sockets.deeds board.sockets in
    let told_after = g.S.Sockets.deeds c.end.new.self in
    let Sound : List (Option Place) → Type 0 = λ places. ∥ IfSome told_after (IsSound places now) ∥₁ in
    let free = board_open board.places.items now told told board.sound c.args.number c.requires in
    record { sound = subst Sound (sym c.clear.ensures) (board_going board.places.items now told told_after board.sound c.args.number free c.end.ensures.deeds) }

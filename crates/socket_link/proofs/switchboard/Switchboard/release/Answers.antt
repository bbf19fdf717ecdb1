use Rattle.std.proofs.Common.{sym, subst, List, Option}
use Rattle.std.specs.Prelude.{IfSome}
use Rattle.std.specs.Duration.{as_nanos}
use Rattle.socket_link.specs.declared.place.Place.{Place}
use Rattle.socket_link.specs.Kept.{IsSound}
use Rattle.socket_link.proofs.SoundLemmas.{board_going}
use Rattle.socket_link.proofs.switchboard.Switchboard.release.Goals as goal

pub invariant_of-self : goal.invariant_of-self
invariant_of-self g c =
    let board = c.args.self.now in
    let now = as_nanos board.clock in
    let Sound : List (Option Place) → Type 0 = λ places. ∥ IfSome (g.S.Sockets.deeds c.release.new.self) (IsSound places now) ∥₁ in
    record { sound = subst Sound (sym c.clear.ensures) (board_going board.places.items now _ _ board.sound c.args.number c.requires c.release.ensures.deeds) }

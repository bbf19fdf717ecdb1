use Rattle.std.proofs.Common.{sym, subst}
use Rattle.std.specs.Duration.{as_nanos}
use Rattle.socket_link.proofs.SoundLemmas.{board_full}
use Rattle.socket_link.proofs.switchboard.Switchboard.free_number.Goals as goal

pub release-requires : goal.release-requires
release-requires g c =
    let board = c.args.self.now in
    let told = g.S.Sockets.deeds board.sockets in
    board_full board.places.items (as_nanos board.clock) told told board.sound _ (c.are_all_taken.ensures c.if-not-are_all_taken.false)

use Rattle.std.specs.Duration.{as_nanos}
use Rattle.socket_link.proofs.RightLemmas.{right_told}
use Rattle.commands.proofs.over_sockets.program_over.Goals as goal

pub returns-clause-theorem : goal.returns-clause-theorem
returns-clause-theorem g c = c.program.ensures.theorem

pub returns-clause-right : goal.returns-clause-right
returns-clause-right g c =
    let board = c.program.new.link.places.board in
    right_told board.places.items (as_nanos board.clock) _ board.sound

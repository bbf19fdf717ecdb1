use Rattle.server.proofs.RunLemmas.{take_apart}
use Rattle.server.proofs.server.Server.take.Goals as goal

pub returns-clause-apart : goal.returns-clause-apart
returns-clause-apart c = take_apart c.args.self.now c.args.event.now c.in_ok-turn.turn c.turn.new.self c.requires c.in_ok-turn.ensures.turn

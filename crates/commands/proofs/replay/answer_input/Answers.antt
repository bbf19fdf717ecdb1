use Rattle.commands.proofs.RunLemmas.{Replays-none}
use Rattle.commands.proofs.replay.answer_input.Goals as goal

pub returns-in-Err-clause-replays : goal.returns-in-Err-clause-replays
returns-in-Err-clause-replays g c = Replays-none _ _ _

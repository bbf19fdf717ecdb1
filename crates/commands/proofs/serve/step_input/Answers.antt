use Rattle.commands.proofs.ServeLemmas.{StepsInput-none}
use Rattle.commands.proofs.serve.step_input.Goals as goal

pub returns-in-Err-clause-steps : goal.returns-in-Err-clause-steps
returns-in-Err-clause-steps g c = StepsInput-none _ _ _

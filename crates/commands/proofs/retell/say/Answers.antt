use Rattle.commands.specs.Theorem.{IsSaid}
use Rattle.commands.proofs.RetellLemmas.{Retells-none}
use Rattle.commands.proofs.retell.say.Goals as goal

pub returns-in-Err-clause-retells : goal.returns-in-Err-clause-retells
returns-in-Err-clause-retells g c = Retells-none IsSaid _ _ _

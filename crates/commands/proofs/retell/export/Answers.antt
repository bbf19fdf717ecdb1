use Rattle.commands.specs.Theorem.{IsFile}
use Rattle.commands.proofs.RetellLemmas.{Retells-none}
use Rattle.commands.proofs.retell.export.Goals as goal

pub returns-in-Err-clause-retells : goal.returns-in-Err-clause-retells
returns-in-Err-clause-retells g c = Retells-none IsFile _ _ _

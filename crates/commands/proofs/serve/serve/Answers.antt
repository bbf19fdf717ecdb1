use Rattle.std.proofs.Common.{refl}
use Rattle.commands.proofs.ServeLemmas.{Serves-stopped, StepsInput-none}
use Rattle.commands.specs.Wiki.{new_wiki}
use Rattle.commands.proofs.serve.serve.Goals as goal

pub returns-in-Err-clause-serves : goal.returns-in-Err-clause-serves
returns-in-Err-clause-serves g c =
    Serves-stopped _ _ _ _ _ _ (new_wiki c.args.budget) (StepsInput-none _ _ (new_wiki c.args.budget)) tt refl refl

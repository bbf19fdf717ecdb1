use Rattle.std.proofs.Common.{Ok}
use Rattle.lists.specs.declared.memory.Memory.{Memory}
use Rattle.commands.specs.Theorem.{TellsImport}
use Rattle.commands.proofs.FileLemmas.{retold_without_memory}
use Rattle.commands.proofs.RetellLemmas.{ends_so}
use Rattle.commands.proofs.import.import_file.Goals as goal

pub returns-in-Ok-clause-ends : goal.returns-in-Ok-clause-ends
returns-in-Ok-clause-ends g c =
    ends_so {E = Memory} (TellsImport c.in-Ok.told.remarks c.args.file.now) (Ok c.in-Ok.told.requests) c.write-outcome.result _ _ c.in-Ok.ensures
    c.write-outcome.ensures.ends

pub returns-in-Err-clause-ends : goal.returns-in-Err-clause-ends
returns-in-Err-clause-ends g c = retold_without_memory _ _ _ c.quiet.ensures.outcome

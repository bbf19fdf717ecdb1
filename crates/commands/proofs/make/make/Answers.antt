use Rattle.wiki_io.proofs.KnownLemmas.{Appends-nil}
use Rattle.commands.proofs.make.make.Goals as goal

pub returns-in-Err-clause-makes : goal.returns-in-Err-clause-makes
returns-in-Err-clause-makes g c = Appends-nil _

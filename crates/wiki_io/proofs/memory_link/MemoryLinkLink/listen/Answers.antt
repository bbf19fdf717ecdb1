use Rattle.wiki_io.proofs.LinkLemmas.{listens_everywhere}
use Rattle.wiki_io.proofs.memory_link.MemoryLinkLink.listen.Goals as goal

pub returns-clause-ready : goal.returns-clause-ready
returns-clause-ready c = λ _. listens_everywhere c.args.address.now

use Rattle.wiki_parts.proofs.FaithLemmas.{means_faithfully}
use Rattle.wiki_parts.proofs.meanings.is_faithful.Goals as goal

pub returns : goal.returns
returns c words tokens = means_faithfully c.args.grammar.now words tokens c.grammar.ensures.sound c.requires

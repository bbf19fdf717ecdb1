use Rattle.plain_wiki.specs.Words.{forms_given}
use Rattle.wiki_parts.proofs.FullLemmas.{takes-none}
use Rattle.wiki_store.proofs.base.refusal_of_word.Goals as goal

pub unreachable-requires : goal.unreachable-requires
unreachable-requires c = takes-none c.args.lexicon.now (forms_given c.args.kind c.args.forms.now) c.requires c.in-Ok.ensures.free

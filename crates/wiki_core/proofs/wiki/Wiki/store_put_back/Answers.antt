use Rattle.wiki_core.proofs.HeldLemmas.{held_put_back}
use Rattle.wiki_core.proofs.wiki.Wiki.store_put_back.Goals as goal

pub invariant_of-self : goal.invariant_of-self
invariant_of-self c =
    held_put_back c.self.inside.store c.put_back.new.self c.args.kept c.self.inside.sessions c.self.inside.last c.put_back.result c.self.invariant
    c.put_back.ensures.done c.put_back.ensures.refused

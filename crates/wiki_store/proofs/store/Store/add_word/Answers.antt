use Rattle.std.proofs.Common.{subst}
use Rattle.wiki_talk.specs.declared.requests.WikiRequest.TheVariants as of_wiki
use Rattle.plain_wiki.specs.Against.{against_wiki}
use Rattle.plain_wiki.specs.Causes.{NoneOf}
use Rattle.wiki_parts.specs.Holding.{Holding}
use Rattle.wiki_store.proofs.store.Store.add_word.Goals as goal

pub returns-clause-free : goal.returns-clause-free
returns-clause-free c =
    subst (λ (h : Holding). NoneOf (against_wiki h.state (of_wiki.Word c.args.kind c.args.forms.now))) c.self.view_is c.in_ok-reply.ensures.free

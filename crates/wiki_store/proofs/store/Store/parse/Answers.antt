use Rattle.std.proofs.Common.{IfErr, OnOk, subst}
use Rattle.wiki_talk.specs.declared.requests.WikiRequest.TheVariants as of_wiki
use Rattle.plain_wiki.specs.Against.{against_wiki}
use Rattle.plain_wiki.specs.Causes.{FirstOf, NoneOf}
use Rattle.wiki_parts.specs.Faults.{IsFault}
use Rattle.wiki_parts.specs.Holding.{Holding}
use Rattle.wiki_store.proofs.store.Store.parse.Goals as goal

pub returns-clause-free : goal.returns-clause-free
returns-clause-free c =
    subst (λ (h : Holding). OnOk c.parse.result (NoneOf (against_wiki h.state (of_wiki.Parse c.args.text.now)))) c.self.view_is c.parse.ensures.free

pub returns-clause-refused : goal.returns-clause-refused
returns-clause-refused c =
    subst (λ (h : Holding). IfErr c.parse.result (IsFault (FirstOf (against_wiki h.state (of_wiki.Parse c.args.text.now))))) c.self.view_is
    c.parse.ensures.refused

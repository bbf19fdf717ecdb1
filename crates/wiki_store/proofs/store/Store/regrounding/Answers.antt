use Rattle.std.proofs.Common.{IfOk, IfErr, OnOk, subst}
use Rattle.wiki_talk.specs.declared.replies.Reply.TheVariants as replies
use Rattle.wiki_talk.specs.declared.requests.WikiRequest.TheVariants as of_wiki
use Rattle.wiki_parts.specs.Faults.{IsFault}
use Rattle.wiki_parts.specs.Holding.{Holding}
use Rattle.plain_wiki.specs.Against.{against_wiki}
use Rattle.plain_wiki.specs.Causes.{FirstOf, NoneOf}
use Rattle.plain_wiki.specs.Doing.{TakesGrammar}
use Rattle.wiki_store.proofs.store.Store.regrounding.Goals as goal

pub returns-clause-free : goal.returns-clause-free
returns-clause-free c =
    subst (λ (h : Holding). OnOk c.regrounding.result (NoneOf (against_wiki h.state (of_wiki.Grammar c.args.text.now)))) c.self.view_is
    c.regrounding.ensures.free

pub returns-clause-takes : goal.returns-clause-takes
returns-clause-takes c =
    subst
    (λ (h : Holding). IfOk c.regrounding.result
    (λ made. TakesGrammar c.args.text.now h.state replies.Grammar (record h.state { grammar = made.0; words = made.1 })))
    c.self.view_is c.regrounding.ensures.takes

pub returns-clause-refused : goal.returns-clause-refused
returns-clause-refused c =
    subst (λ (h : Holding). IfErr c.regrounding.result (IsFault (FirstOf (against_wiki h.state (of_wiki.Grammar c.args.text.now)))))
    c.self.view_is c.regrounding.ensures.refused

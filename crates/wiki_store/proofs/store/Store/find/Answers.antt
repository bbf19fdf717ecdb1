use Rattle.std.proofs.Common.{IfErr, subst}
use Rattle.wiki_talk.specs.declared.requests.WordRequest.TheVariants as of_word
use Rattle.plain_wiki.specs.Against.{against_word, against_form}
use Rattle.plain_wiki.specs.Causes.{FirstOf}
use Rattle.wiki_parts.specs.Faults.{IsFault}
use Rattle.wiki_parts.specs.Holding.{Holding}
use Rattle.wiki_store.proofs.store.Store.find.Goals as goal

pub returns-clause-refused : goal.returns-clause-refused
returns-clause-refused c =
    subst (λ (h : Holding). IfErr c.find.result (IsFault (FirstOf (against_form h.state c.args.form.now (against_word h.state of_word.Find)))))
    c.self.view_is c.find.ensures.refused

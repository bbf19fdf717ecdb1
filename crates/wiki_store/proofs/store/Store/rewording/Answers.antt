use Rattle.std.proofs.Common.{IfOk, IfErr, OnOk, subst}
use Rattle.std.specs.Option.{IsSomeAnd}
use Rattle.wiki_talk.specs.declared.replies.Reply.TheVariants as replies
use Rattle.wiki_talk.specs.declared.requests.WordRequest.TheVariants as of_word
use Rattle.wiki_parts.specs.Faults.{IsFault}
use Rattle.wiki_parts.specs.Holding.{Holding}
use Rattle.plain_wiki.specs.Places.{word_with}
use Rattle.plain_wiki.specs.Against.{against_word, against_form}
use Rattle.plain_wiki.specs.Causes.{FirstOf, NoneOf}
use Rattle.plain_wiki.specs.Doing.{RewordsWord}
use Rattle.wiki_store.proofs.store.Store.rewording.Goals as goal

pub returns-clause-free : goal.returns-clause-free
returns-clause-free c =
    subst
    (λ (h : Holding). OnOk c.rewording.result (NoneOf (against_form h.state c.args.form.now (against_word h.state (of_word.Reword c.args.texts.now)))))
    c.self.view_is c.rewording.ensures.free

pub returns-clause-rewords : goal.returns-clause-rewords
returns-clause-rewords c =
    subst
    (λ (h : Holding). IfOk c.rewording.result (λ lexicon. IsSomeAnd (word_with h.state c.args.form.now)
    (λ word. RewordsWord word c.args.texts.now h.state replies.Reword (record h.state { words = lexicon }))))
    c.self.view_is c.rewording.ensures.rewords

pub returns-clause-refused : goal.returns-clause-refused
returns-clause-refused c =
    subst
    (λ (h : Holding). IfErr c.rewording.result
    (IsFault (FirstOf (against_form h.state c.args.form.now (against_word h.state (of_word.Reword c.args.texts.now))))))
    c.self.view_is c.rewording.ensures.refused

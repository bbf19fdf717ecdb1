use Rattle.std.proofs.Common.{Option, sym, ap, subst}
use Rattle.std.specs.Option.{IsSomeAnd}
use Rattle.lexicon.specs.declared.words.Word.{Word}
use Rattle.wiki_talk.specs.declared.replies.Reply.TheVariants as replies
use Rattle.plain_wiki.specs.Doing.{TellsWord}
use Rattle.wiki_store.proofs.RewordLemmas.{bound-word}
use Rattle.wiki_store.proofs.base.Base.find.Goals as goal

pub returns-clause-tells : goal.returns-clause-tells
returns-clause-tells c =
    let there = bound-word c.args.self.now.state c.in_ok-word.ensures.lexicon c.args.form.now c.in_ok-word.word c.forms.result.now c.in_ok-word.ensures.ok
    c.forms.ensures in
    subst (λ (o : Option Word). IsSomeAnd o (λ word. TellsWord word (replies.Find c.in_ok-told_word.field-0))) (sym there)
    (ap replies.Find c.in_ok-told_word.ensures)

use Rattle.std.proofs.Common.{◌≡◌, Option, None, inr, subst}
use Rattle.std.specs.Prelude.{MatchOption}
use Rattle.std.proofs.lemmas.Result.{IfOk-weaker}
use Rattle.articles.specs.Articles.{sentence_at}
use Rattle.wiki_core.specs.declared.meaning.Meaning.{Meaning}
use Rattle.wiki_core.specs.Parts.{IsMeaningAt}
use Rattle.retelling.specs.Why.{IsAnswerCase, TellsCase}
use Rattle.retelling.proofs.CaseLemmas.{asks_nothing}
use Rattle.retelling.proofs.cases.of_answer_at.Goals as goal

pub returns : goal.returns
returns c =
    let state = c.args.wiki.now.state.stored in
    let word = c.args.word in
    let at = c.args.at in
    let meant : IsMeaningAt state word at c.in-Some.meaning =
    subst (λ (o : Option Meaning). MatchOption o (sentence_at state.articles word at ≡ None) (IsMeaningAt state word at)) c.in-Some.is
    c.in_ok-meaning.ensures in
    IfOk-weaker c.no_case-in-None.result _ (TellsCase state c.args.budget (IsAnswerCase state word at c.args.name))
    (λ text told. inr (asks_nothing state word at c.args.name c.in-Some.meaning meant c.in-None.is, told)) c.no_case-in-None.ensures

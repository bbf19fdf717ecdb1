use Rattle.std.proofs.Common.{◌≡◌, Some, sym, ap, ◌∙◌}
use Rattle.std.proofs.lemmas.Result.{IfOk-weaker}
use Rattle.lexicon.specs.Words.{Listed, owner}
use Rattle.plain_wiki.specs.Places.{word_named}
use Rattle.retelling.specs.Why.{IsAnswerCaseOf, TellsCase}
use Rattle.retelling.proofs.CaseLemmas.{of_words}
use Rattle.retelling.proofs.cases.of_answer.Goals as goal

pub returns-in-Some-find : goal.returns-in-Some-find
returns-in-Some-find c =
    let state = c.args.wiki.now.state.stored in
    let form = c.args.form.now in
    let name = c.args.name.now in
    let named : word_named state form ≡ Some c.in-Some.word =
    ap (λ (words : Listed). owner words.live form) (sym c.lexicon.ensures) ∙ sym c.in-Some.ensures.owner in
    let named_so : word_named state name ≡ Some c.in-Some-find.other =
    ap (λ (words : Listed). owner words.live name) (sym c.lexicon-2.ensures) ∙ sym c.in-Some-find.ensures.owner in
    IfOk-weaker c.of_answer_at.result _ (TellsCase state c.args.budget (IsAnswerCaseOf state form c.args.at name))
    (λ text is. of_words state c.args.budget form c.args.at name c.in-Some.word c.in-Some-find.other text named named_so is) c.of_answer_at.ensures

use Rattle.std.proofs.Common.{◌≡◌, Some, sym, ap, ◌∙◌}
use Rattle.std.proofs.lemmas.Result.{IfOk-weaker}
use Rattle.lexicon.specs.Words.{Listed, owner}
use Rattle.plain_wiki.specs.Places.{word_named}
use Rattle.retelling.specs.Why.{IsRedCaseOf, TellsCase}
use Rattle.retelling.proofs.CaseLemmas.{of_word}
use Rattle.retelling.proofs.cases.of_sentence.Goals as goal

pub returns-in-Some : goal.returns-in-Some
returns-in-Some c =
    let state = c.args.wiki.now.state.stored in
    let form = c.args.form.now in
    let named : word_named state form ≡ Some c.in-Some.word =
    ap (λ (words : Listed). owner words.live form) (sym c.lexicon.ensures) ∙ sym c.in-Some.ensures.owner in
    IfOk-weaker c.of_sentence_at.result _ (TellsCase state c.args.budget (IsRedCaseOf state form c.args.at))
    (λ text is. of_word state c.args.budget form c.args.at c.in-Some.word text named is) c.of_sentence_at.ensures

use Rattle.std.proofs.Common.{subst}
use Rattle.std.proofs.lemmas.Result.{IfOk-weaker}
use Rattle.codeco_terms.specs.GrammarParts.{GrammarParts}
use Rattle.lexicon.specs.Words.{Listed}
use Rattle.logic_terms.specs.Shown.{claims_of}
use Rattle.retelling.specs.Saying.{AreLinesOf, SaysAll}
use Rattle.retelling.proofs.saying.say_all.Goals as goal

pub returns : goal.returns
returns c =
    let state = c.args.wiki.now.state.stored in
    let claims = claims_of c.asserted.result.now in
    IfOk-weaker c.lines_of.result _ (SaysAll state)
    (λ lines are. record {
      claims = claims;
      known = c.asserted.ensures;
      said = subst (λ (g : GrammarParts). AreLinesOf g state.words claims lines) c.grammar.ensures.grammar
          (subst (λ (words : Listed). AreLinesOf c.grammar.result.now words claims lines) c.lexicon.ensures are);
    })
    c.lines_of.ensures

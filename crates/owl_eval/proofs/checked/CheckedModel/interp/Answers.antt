use Rattle.std.proofs.Common.{sym, subst}
use Rattle.logic_terms.specs.Shown.{claims_of}
use Rattle.logic_terms.specs.Reading.{IsModel}
use Rattle.logic_terms.proofs.MeaningLemmas.{all_hold-Decides}
use Rattle.owl_eval.proofs.checked.CheckedModel.interp.Goals as goal

pub returns-clause-model : goal.returns-clause-model
returns-clause-model c =
    let checked = c.args.self.now in
    subst (λ i. IsModel i (claims_of checked.axioms)) (sym c.lent.ensures.same)
    ((all_hold-Decides checked.interp (claims_of checked.axioms)).0 checked.model)

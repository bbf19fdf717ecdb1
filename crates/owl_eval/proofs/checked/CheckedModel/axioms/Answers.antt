use Rattle.logic_terms.specs.Shown.{claims_of}
use Rattle.logic_terms.proofs.MeaningLemmas.{all_hold-Decides}
use Rattle.owl_eval.proofs.checked.CheckedModel.axioms.Goals as goal

pub returns-clause-model : goal.returns-clause-model
returns-clause-model c =
    let checked = c.args.self.now in
    (all_hold-Decides checked.interp (claims_of checked.axioms)).0 checked.model

use Rattle.std.proofs.lemmas.Bool.Decides.{Decides-at}
use Rattle.logic_terms.specs.Shown.{claims_of}
use Rattle.logic_terms.proofs.MeaningLemmas.{all_hold-Decides}
use Rattle.owl_eval.proofs.axioms.is_model.Goals as goal

pub returns-clause-reading : goal.returns-clause-reading
returns-clause-reading c =
    Decides-at _ _ c.all_true.ensures (all_hold-Decides c.args.interp.now (claims_of c.args.axioms.now))

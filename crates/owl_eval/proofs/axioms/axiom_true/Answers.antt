use Rattle.std.proofs.lemmas.Bool.Decides.{Decides-at}
use Rattle.logic_terms.specs.Shown.{claim_of}
use Rattle.logic_terms.proofs.MeaningLemmas.{holds-Decides}
use Rattle.owl_eval.proofs.axioms.axiom_true.Goals as goal

pub returns-clause-reading : goal.returns-clause-reading
returns-clause-reading c =
    Decides-at _ _ c.is_true.ensures (holds-Decides c.args.interp.now (claim_of c.args.axiom.now))

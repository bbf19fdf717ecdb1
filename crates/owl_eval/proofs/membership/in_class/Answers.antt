use Rattle.std.proofs.lemmas.Bool.Decides.{Decides-at}
use Rattle.logic_terms.specs.Shown.{concept_of}
use Rattle.logic_terms.proofs.MeaningLemmas.{is_in-Decides}
use Rattle.owl_eval.proofs.membership.in_class.Goals as goal

pub returns-clause-reading : goal.returns-clause-reading
returns-clause-reading c =
    Decides-at _ _ c.is_member.ensures (is_in-Decides c.args.interp.now (concept_of c.args.class.now) c.args.element)

use Rattle.std.proofs.Common.{sym, subst}
use Rattle.std.proofs.lemmas.Bool.Decides.{Decides-at}
use Rattle.logic_terms.specs.Shown.{claims_of}
use Rattle.logic_terms.proofs.MeaningLemmas.{all_hold-Decides}
use Rattle.owl_eval.specs.Avoiding.{HoldBeside}
use Rattle.owl_eval.proofs.Coincidence.{hold_beside}
use Rattle.owl_eval.proofs.checked.CheckedModel.are_true_in.Goals as goal

pub all_true_beside-requires-clause-known : goal.all_true_beside-requires-clause-known
all_true_beside-requires-clause-known c =
    let known = c.args.self.now in
    subst (λ ns. HoldBeside ns c.args.interp.now (claims_of known.axioms)) (sym c.as_slice.ensures.value)
    (hold_beside c.in-Ok.changed.items known.interp c.args.interp.now c.in-Ok.ensures.differ (claims_of known.axioms) known.model)

pub returns-in-Ok-clause-reading : goal.returns-in-Ok-clause-reading
returns-in-Ok-clause-reading c =
    Decides-at _ _ c.all_true_beside.ensures (all_hold-Decides c.args.interp.now (claims_of c.args.axioms.now))

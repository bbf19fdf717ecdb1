use Rattle.wiki_base.proofs.ListLaws.{all_at}
use Rattle.std.proofs.lemmas.Bool.Decides.{Decides-at}
use Rattle.logic_terms.specs.Shown.{claims_of}
use Rattle.logic_terms.specs.Meaning.{holds}
use Rattle.logic_terms.proofs.MeaningLemmas.{all_hold-Decides}
use Rattle.owl_eval.proofs.checked.CheckedModel.is_model_of.Goals as goal

pub all_true_beside-requires-clause-known : goal.all_true_beside-requires-clause-known
all_true_beside-requires-clause-known c k d within without =
    let checked = c.args.self.now in
    all_at (holds checked.interp) (claims_of checked.axioms) k d checked.model within

pub returns : goal.returns
returns c = Decides-at _ _ c.all_true_beside.ensures (all_hold-Decides c.args.self.now.interp (claims_of c.args.axioms.now))

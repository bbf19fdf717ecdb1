use Rattle.logic_terms.specs.Shown.{claims_of}
use Rattle.owl_eval.specs.Checked.{kept_claims}
use Rattle.answers.proofs.DenyingLemmas.{AreDenied}
use Rattle.answers.proofs.denying.all_denied.Given as goal

abbrev pub invariant-loop-name : goal.invariant-loop-name
invariant-loop-name l = AreDenied l.question.names.now (kept_claims l.question.kept.now) (claims_of l.axioms)

use Rattle.std.proofs.Common.{All, take}
use Rattle.owl_eval.specs.Checked.{kept_interp, kept_claims}
use Rattle.reasoner.specs.Verdicts.{IsFiniteModel}
use Rattle.retelling.proofs.reasons.are_models.Given as goal

-- those so far are models
abbrev pub invariant-loop-model : goal.invariant-loop-model
invariant-loop-model l = All (λ m. IsFiniteModel (kept_interp m) (kept_claims m)) (take l.model-index l.models)

use Rattle.std.proofs.Common.{◌<◌, ◌≤◌, All, length, arith, subst}
use Rattle.std.proofs.lemmas.List.{take_all}
use Rattle.std.proofs.lemmas.List.Elements.{All-more}
use Rattle.logic_terms.specs.Interpretation.{Interpretation}
use Rattle.owl_eval.specs.declared.checked.CheckedModel.{CheckedModel}
use Rattle.owl_eval.specs.Checked.{kept_interp, kept_claims}
use Rattle.reasoner.specs.Verdicts.{IsFiniteModel}
use Rattle.retelling.proofs.reasons.are_models.Goals as goal

pub loop-model-preserved : goal.loop-model-preserved
loop-model-preserved c =
    let P : CheckedModel → Type 0 = λ m. IsFiniteModel (kept_interp m) (kept_claims m) in
    let models = c.args.models.now in
    let m = c.model-item.result in
    let within : c.loop-model.model-index < length models = omega arith in
    let here : P m = subst (λ (i : Interpretation). IsFiniteModel i (kept_claims m)) c.interp.ensures.part (c.interp.ensures.sound, c.interp.ensures.model) in
    All-more P models c.loop-model.model-index m within c.loop-model.invariant (subst P c.model-item.is here)

pub returns : goal.returns
returns c =
    let P : CheckedModel → Type 0 = λ m. IsFiniteModel (kept_interp m) (kept_claims m) in
    let all : length c.args.models.now ≤ c.loop-model.model-index = omega arith in
    subst (All P) (take_all c.loop-model.model-index c.args.models.now all) c.loop-model.invariant

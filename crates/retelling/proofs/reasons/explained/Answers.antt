use Rattle.std.proofs.Common.{◌≡◌, ℕ, List, All, map, take, ap, subst, ◌∙◌}
use Rattle.std.proofs.lemmas.Result.{IfOk-weaker}
use Rattle.owl_eval.specs.declared.checked.CheckedModel.{CheckedModel}
use Rattle.owl_eval.specs.Checked.{kept_interp, kept_claims}
use Rattle.reasoner.specs.Verdicts.{IsFiniteModel}
use Rattle.explain.specs.declared.part.Part.{Part}
use Rattle.explain.specs.Answers.{claims_in}
use Rattle.wiki_core.specs.Parts.{place_of}
use Rattle.retelling.specs.Why.{reason_lines, TellsOf}
use Rattle.retelling.proofs.ReasonLines.{tells_reason}
use Rattle.retelling.proofs.reasons.explained.Goals as goal

pub returns-in-Reason : goal.returns-in-Reason
returns-in-Reason c =
    let state = c.args.wiki.now.state.stored in
    let places = map place_of (take c.args.count c.args.parts.now) in
    let finite : All (λ m. IsFiniteModel (kept_interp m) (kept_claims m)) c.in-Reason.models =
    subst (All (λ m. IsFiniteModel (kept_interp m) (kept_claims m))) c.as_slice.ensures c.are_models.ensures in
    IfOk-weaker c.reason_lines.result _ (TellsOf state c.args.budget places (claims_in c.args.parts.now))
    (λ text told. tells_reason state c.args.budget places (claims_in c.args.parts.now) c.in_ok-kept.field-0 c.in-Reason.kept c.in-Reason.closed
    c.in-Reason.models text c.in-Reason.is c.in_ok-kept.ensures.reason c.in_ok-kept.ensures.contradicts c.in_ok-kept.ensures.models finite
    (told ∙ ap (λ (ps : List Part). reason_lines state (map place_of ps) c.as_slice-in-Reason.result.now) c.front.ensures
    ∙ ap (reason_lines state places) c.as_slice-in-Reason.ensures)) c.reason_lines.ensures

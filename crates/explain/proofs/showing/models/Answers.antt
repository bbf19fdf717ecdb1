use Rattle.std.proofs.Common.{◌≡◌, ℕ, ◌+◌, ◌++◌, [], ◌∷◌, get_or, take, sym, subst, append-nil}
use Rattle.std.specs.List.{AllZip}
use Rattle.std.proofs.lemmas.List.{take_more}
use Rattle.owl_eval.specs.declared.checked.CheckedModel.{CheckedModel}
use Rattle.owl_eval.specs.Checked.{kept_claims}
use Rattle.reasoner.specs.Verdicts.{IsFiniteModel}
use Rattle.explain.specs.Answers.{claims_in}
use Rattle.explain.specs.Reasons.{stated_at, without}
use Rattle.explain.proofs.ReasonLemmas.{zip_at, zip_push}
use Rattle.explain.proofs.showing.models.Goals as goal

pub model_without-requires : goal.model_without-requires
model_without-requires c =
    let parts = claims_in c.args.parts.now in
    let kept = c.args.kept.now in
    let i = c.loop-index.index in
    let place = get_or kept i 0 in
    let shown = c.index-shown-index.result in
    subst (λ l. IsFiniteModel shown (stated_at parts l)) (append-nil (without place kept))
    (subst (λ m. IsFiniteModel m (stated_at parts (without place kept ++ []))) (sym c.index-shown-index.is)
    (zip_at (λ p m. IsFiniteModel m (stated_at parts (without p kept ++ []))) kept c.args.shown.now i 0 shown c.requires.shown c.loop-index-test.true))

pub loop-index-preserved : goal.loop-index-preserved
loop-index-preserved c =
    let parts = claims_in c.args.parts.now in
    let kept = c.args.kept.now in
    let i = c.loop-index.index in
    let R = λ (place : ℕ) (m : CheckedModel). kept_claims m ≡ stated_at parts (without place kept) in
    subst (AllZip R (take (i + 1) kept)) (sym c.in_ok-push.ensures.ok)
    (subst (λ l. AllZip R l (c.loop-index.models ++ c.in_ok-model_without.field-0 ∷ [])) (sym (take_more kept i 0 c.loop-index-test.true))
    (zip_push R (take i kept) c.loop-index.models (get_or kept i 0) c.in_ok-model_without.field-0 c.loop-index.invariant
    c.in_ok-model_without.ensures.axioms))

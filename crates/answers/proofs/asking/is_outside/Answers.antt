use Rattle.std.proofs.Common.{◌≡◌, true, sym, ap, subst, ◌∙◌, inl, inr}
use Rattle.std.proofs.lemmas.Bool.{cases_Bool}
use Rattle.logic_terms.specs.Interpretation.{is_interpretation}
use Rattle.logic_terms.specs.Reading.{IsModel}
use Rattle.logic_terms.specs.Concept.{ClassAssertion}
use Rattle.logic_terms.specs.Meaning.{holds}
use Rattle.logic_terms.specs.Shown.{concept_of}
use Rattle.owl_eval.specs.Checked.{kept_interp, kept_claims}
use Rattle.answers.proofs.KnownLemmas.{not_denied, outside_here}
use Rattle.answers.proofs.asking.is_outside.Goals as goal

pub returns-clause-outside : goal.returns-clause-outside
returns-clause-outside c t =
    let kept = kept_interp c.args.kept.now in
    let same : holds kept (ClassAssertion (concept_of c.args.denial.now) c.args.name) ≡ c.axiom_true.result =
    ap (λ d. holds kept (ClassAssertion d c.args.name)) (sym c.in_ok-copied.ensures)
    ∙ (ap (λ i. holds i (ClassAssertion (concept_of c.in_ok-copied.copied) c.args.name)) (sym c.interp.ensures.part) ∙ sym c.axiom_true.ensures.exact) in
    outside_here kept (kept_claims c.args.kept.now) (concept_of c.args.class.now) (concept_of c.args.denial.now) c.args.name c.requires
    (subst (λ i. is_interpretation i ≡ true) c.interp.ensures.part c.interp.ensures.sound)
    (subst (λ i. IsModel i (kept_claims c.args.kept.now)) c.interp.ensures.part c.interp.ensures.model)
    (same ∙ t)

pub returns-clause-inside : goal.returns-clause-inside
returns-clause-inside c out =
    let kept = kept_interp c.args.kept.now in
    let same : holds kept (ClassAssertion (concept_of c.args.denial.now) c.args.name) ≡ c.axiom_true.result =
    ap (λ d. holds kept (ClassAssertion d c.args.name)) (sym c.in_ok-copied.ensures)
    ∙ (ap (λ i. holds i (ClassAssertion (concept_of c.in_ok-copied.copied) c.args.name)) (sym c.interp.ensures.part) ∙ sym c.axiom_true.ensures.exact) in
    not_denied kept (concept_of c.args.class.now) (concept_of c.args.denial.now) c.args.name c.requires
    (same ∙ elim (cases_Bool c.axiom_true.result) [ inl yes_is ↦ absurd (out yes_is) | inr no_is ↦ no_is ])

use Rattle.std.proofs.Common.{◌≡◌, ◌∷◌, [], ◌++◌, ℕ, List, All, IsTrue, None, map, take, subst, ◌∙◌}
use Rattle.std.proofs.lemmas.Result.{IfOk-weaker}
use Rattle.absorb.specs.Mentioned.{are_over}
use Rattle.logic_terms.specs.Complement.{complement}
use Rattle.logic_terms.specs.Concept.{Claim, ClassAssertion}
use Rattle.logic_terms.specs.Plain.{are_plain}
use Rattle.logic_terms.specs.Shown.{concept_of}
use Rattle.explain.specs.declared.part.Part.{Part}
use Rattle.explain.specs.Answers.{claims_in}
use Rattle.wiki_core.specs.Parts.{place_of}
use Rattle.plain_wiki.specs.Knowledge.{live_names}
use Rattle.retelling.specs.Cases.{TellsCounted}
use Rattle.retelling.specs.Why.{TellsOf}
use Rattle.retelling.proofs.CaseLemmas.{denial_over, denial_plain}
use Rattle.retelling.proofs.ReasonLines.{of_counted_more, fit_more}
use Rattle.retelling.proofs.cases.with_denial.Goals as goal

pub explained-requires-clause-over : goal.explained-requires-clause-over
explained-requires-clause-over c =
    let names = live_names c.args.wiki.now.state.stored.words in
    let concept = concept_of c.args.class.now in
    let parts = c.in_ok-parts.parts in
    let added : c.as_slice.result.now ≡ parts ++ c.in_ok-denial.field-0 ∷ [] = c.as_slice.ensures ∙ c.in_ok-push.ensures.ok in
    fit_more (λ claims. IsTrue (are_over names claims)) parts c.as_slice.result.now c.in_ok-denial.field-0
    (ClassAssertion (complement concept) c.args.name ∷ []) c.in_ok-parts.ensures.over added c.in_ok-denial.ensures
    (denial_over names concept c.args.name c.requires.lives c.requires.fit.over)

pub explained-requires-clause-plain : goal.explained-requires-clause-plain
explained-requires-clause-plain c =
    let concept = concept_of c.args.class.now in
    let parts = c.in_ok-parts.parts in
    let added : c.as_slice.result.now ≡ parts ++ c.in_ok-denial.field-0 ∷ [] = c.as_slice.ensures ∙ c.in_ok-push.ensures.ok in
    fit_more (λ claims. IsTrue (are_plain claims)) parts c.as_slice.result.now c.in_ok-denial.field-0
    (ClassAssertion (complement concept) c.args.name ∷ []) c.in_ok-parts.ensures.plain added c.in_ok-denial.ensures
    (denial_plain concept c.args.name c.requires.fit.plain)

pub returns : goal.returns
returns c =
    let state = c.args.wiki.now.state.stored in
    let claims : List Claim = ClassAssertion (complement (concept_of c.args.class.now)) c.args.name ∷ [] in
    let parts = c.in_ok-parts.parts in
    let added : c.as_slice.result.now ≡ parts ++ c.in_ok-denial.field-0 ∷ [] = c.as_slice.ensures ∙ c.in_ok-push.ensures.ok in
    IfOk-weaker c.explained.result _ (TellsCounted state c.args.budget None (claims ∷ []))
    (λ text tells. of_counted_more state c.args.budget None parts c.as_slice.result.now c.in_ok-denial.field-0 claims text c.in_ok-parts.ensures added
    c.in_ok-denial.ensures
    (subst (λ (n : ℕ). TellsOf state c.args.budget (map place_of (take n c.as_slice.result.now)) (claims_in c.as_slice.result.now) text)
    c.len-count.ensures tells)) c.explained.ensures

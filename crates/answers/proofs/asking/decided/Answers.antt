use Rattle.std.proofs.Common.{subst, sym, ap, ◌∙◌}
use Rattle.std.proofs.lemmas.Bool.{false≢true}
use Rattle.std.specs.Prelude.{IsTrue}
use Rattle.logic_terms.specs.Interpretation.{is_interpretation}
use Rattle.logic_terms.specs.Known.{theory_of}
use Rattle.logic_terms.specs.Shown.{concept_of}
use Rattle.logic_terms.specs.Theory.{IsModelOf}
use Rattle.closure_check.specs.NoModel.{HasNoModel}
use Rattle.owl_eval.specs.Checked.{kept_claims}
use Rattle.tableau.specs.Ends.{IsCutAt}
use Rattle.tableau_rules.specs.Shown.{graph_of}
use Rattle.reasoner.specs.Verdicts.{IfConsistent, IfInconsistent, IfSpent}
use Rattle.consequences.specs.Known.{theory_in}
use Rattle.answers.specs.Asserted.{with_assertion}
use Rattle.answers.proofs.KnownLemmas.{included, outside_other, denying_lawful, denying_plain, denying_model, denying_none, denying_longer}
use Rattle.answers.proofs.asking.decided.Goals as goal

pub returns-then-is_out : goal.returns-then-is_out
returns-then-is_out c = c.in_ok-is_out.ensures.outside c.if-is_out.true

pub returns-then-include : goal.returns-then-include
returns-then-include c =
    let q = c.args.question.now in
    included (kept_claims q.kept.now) q.names.now (theory_in q.known.now) (concept_of q.class.now) c.args.name c.requires.fit.absorbed
    c.requires.fit.over (c.include.ensures c.if-include.true)

pub returns-then-is_out_there : goal.returns-then-is_out_there
returns-then-is_out_there c =
    let q = c.args.question.now in
    outside_other c.args.other.now (kept_claims q.kept.now) (concept_of q.class.now) c.args.name c.in_ok-is_out_there.is_out_there c.requires.other
    c.in_ok-is_out_there.ensures.some c.in_ok-is_out_there.ensures.none c.if-is_out_there.true

pub decide-requires-clause-lawful : goal.decide-requires-clause-lawful
decide-requires-clause-lawful c =
    let q = c.args.question.now in
    denying_lawful (kept_claims q.kept.now) q.names.now (theory_in q.known.now) (concept_of q.class.now) (concept_of q.denial.now)
    c.args.name (theory_of c.in_ok-with_denial.with_denial)
    (record {
      absorbed = c.requires.fit.absorbed;
      complemented = c.requires.fit.denial;
      with_denial = c.in_ok-with_denial.ensures ∙ ap (λ k. with_assertion k c.args.name (concept_of q.denial.now)) c.knowledge.ensures;
      rising = c.requires.rising;
      over = c.requires.fit.over;
      given = c.requires.given;
      plain = c.requires.fit.plain;
    })

pub decide-requires-clause-plain : goal.decide-requires-clause-plain
decide-requires-clause-plain c =
    let q = c.args.question.now in
    denying_plain (kept_claims q.kept.now) q.names.now (theory_in q.known.now) (concept_of q.class.now) (concept_of q.denial.now)
    c.args.name (theory_of c.in_ok-with_denial.with_denial)
    (record {
      absorbed = c.requires.fit.absorbed;
      complemented = c.requires.fit.denial;
      with_denial = c.in_ok-with_denial.ensures ∙ ap (λ k. with_assertion k c.args.name (concept_of q.denial.now)) c.knowledge.ensures;
      rising = c.requires.rising;
      over = c.requires.fit.over;
      given = c.requires.given;
      plain = c.requires.fit.plain;
    })

pub returns-in-Consistent : goal.returns-in-Consistent
returns-in-Consistent c =
    let q = c.args.question.now in
    let made = theory_of c.in_ok-with_denial.with_denial in
    denying_model (kept_claims q.kept.now) q.names.now (theory_in q.known.now) (concept_of q.class.now) (concept_of q.denial.now)
    c.args.name (theory_of c.in_ok-with_denial.with_denial)
    (record {
      absorbed = c.requires.fit.absorbed;
      complemented = c.requires.fit.denial;
      with_denial = c.in_ok-with_denial.ensures ∙ ap (λ k. with_assertion k c.args.name (concept_of q.denial.now)) c.knowledge.ensures;
      rising = c.requires.rising;
      over = c.requires.fit.over;
      given = c.requires.given;
      plain = c.requires.fit.plain;
    })
    c.in-Consistent.field-0
    (subst (λ v. IfConsistent v (λ i. IsTrue (is_interpretation i))) c.in-Consistent.is c.in_ok-decide.ensures.finite)
    (subst (λ v. IfConsistent v (λ i. IsModelOf i made)) c.in-Consistent.is c.in_ok-decide.ensures.model)

pub returns-in-Inconsistent : goal.returns-in-Inconsistent
returns-in-Inconsistent c =
    let q = c.args.question.now in
    let made = theory_of c.in_ok-with_denial.with_denial in
    denying_none (kept_claims q.kept.now) q.names.now (theory_in q.known.now) (concept_of q.class.now) (concept_of q.denial.now)
    c.args.name (theory_of c.in_ok-with_denial.with_denial)
    (record {
      absorbed = c.requires.fit.absorbed;
      complemented = c.requires.fit.denial;
      with_denial = c.in_ok-with_denial.ensures ∙ ap (λ k. with_assertion k c.args.name (concept_of q.denial.now)) c.knowledge.ensures;
      rising = c.requires.rising;
      over = c.requires.fit.over;
      given = c.requires.given;
      plain = c.requires.fit.plain;
    })
    (subst (λ v. IfInconsistent v (λ _. HasNoModel made)) c.in-Inconsistent.is c.in_ok-decide.ensures.no_model)

pub returns : goal.returns
returns c =
    let q = c.args.question.now in
    let made = theory_of c.in_ok-with_denial.with_denial in
    let cut = subst (λ v. IfSpent v (λ b. IsCutAt made q.budget (graph_of b))) c.in-Spent.is c.in_ok-decide.ensures.spent in (
      denying_longer (kept_claims q.kept.now) q.names.now (theory_in q.known.now) (concept_of q.class.now) (concept_of q.denial.now)
          c.args.name (theory_of c.in_ok-with_denial.with_denial)
          (record {
            absorbed = c.requires.fit.absorbed;
            complemented = c.requires.fit.denial;
            with_denial = c.in_ok-with_denial.ensures ∙ ap (λ k. with_assertion k c.args.name (concept_of q.denial.now)) c.knowledge.ensures;
            rising = c.requires.rising;
            over = c.requires.fit.over;
            given = c.requires.given;
            plain = c.requires.fit.plain;
          })
          q.budget cut.longer,
      c.in_ok-is_out.ensures.inside (λ t. false≢true (sym c.if-is_out.false ∙ t)),
    )

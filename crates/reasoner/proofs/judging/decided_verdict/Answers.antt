use Rattle.std.proofs.Common.{sym, subst}
use Rattle.logic_terms.specs.Known.{theory_of}
use Rattle.logic_terms.specs.Shown.{claims_of}
use Rattle.logic_terms.specs.Theory.{IsModelOf}
use Rattle.logic_terms.specs.Interpretation.{is_interpretation}
use Rattle.std.specs.Prelude.{IsTrue}
use Rattle.closure_check.specs.NoModel.{HasNoModel}
use Rattle.tableau_rules.specs.Shown.{graph_of}
use Rattle.tableau.specs.Ends.{IsCutAt}
use Rattle.tableau_bounds.proofs.Laws.{search_bounded}
use Rattle.reasoner.specs.Verdicts.{IfConsistent, IfInconsistent, IfSpent, IsFiniteModel}
use Rattle.reasoner.proofs.OneKnowledge.{below_without_choices, below_without_new_nodes}
use Rattle.reasoner.proofs.judging.decided_verdict.Goals as goal

pub checked-requires : goal.checked-requires
checked-requires c =
    (c.in_ok-k.ensures.models c.in-Consistent.interp).0
    (subst (λ v. IfConsistent v (λ i. IsModelOf i (theory_of c.in_ok-k.k))) c.in-Consistent.is c.in_ok-interp.ensures.model)

pub returns-in-Consistent-clause-model : goal.returns-in-Consistent-clause-model
returns-in-Consistent-clause-model c =
    let k = theory_of c.in_ok-k.k in
    subst (λ i. IsFiniteModel i (claims_of c.args.axioms)) (sym c.checked.ensures.interp) (
      subst (λ v. IfConsistent v (λ i. IsTrue (is_interpretation i))) c.in-Consistent.is c.in_ok-interp.ensures.finite,
      (c.in_ok-k.ensures.models c.in-Consistent.interp).0 (subst (λ v. IfConsistent v (λ i. IsModelOf i k)) c.in-Consistent.is c.in_ok-interp.ensures.model),
    )

pub returns-in-Inconsistent-clause-impossible : goal.returns-in-Inconsistent-clause-impossible
returns-in-Inconsistent-clause-impossible c i model =
    let k = theory_of c.in_ok-k.k in
    let none = subst (λ v. IfInconsistent v (λ _. HasNoModel k)) c.in-Inconsistent.is c.in_ok-interp.ensures.no_model in
    none i model.0 ((c.in_ok-k.ensures.models i).1 model.1)

pub returns-in-Spent-clause-enough : goal.returns-in-Spent-clause-enough
returns-in-Spent-clause-enough c =
    let k = theory_of c.in_ok-k.k in
    let cut = subst (λ v. IfSpent v (λ b. IsCutAt k c.args.budget (graph_of b))) c.in-Spent.is c.in_ok-interp.ensures.spent in
    record {
      knowledge = k;
      absorbed = c.in_ok-k.ensures.exact;
      below = search_bounded k (c.in_ok-k.ensures.plain c.requires.plain) c.args.budget cut.longer;
    }

pub returns-in-Spent-clause-straight : goal.returns-in-Spent-clause-straight
returns-in-Spent-clause-straight c =
    let k = theory_of c.in_ok-k.k in
    let cut = subst (λ v. IfSpent v (λ b. IsCutAt k c.args.budget (graph_of b))) c.in-Spent.is c.in_ok-interp.ensures.spent in
    record { below = below_without_choices (claims_of c.args.axioms) c.args.names.now k c.in_ok-k.ensures.exact c.args.budget cut.longer }

pub returns-in-Spent-clause-short : goal.returns-in-Spent-clause-short
returns-in-Spent-clause-short c =
    let k = theory_of c.in_ok-k.k in
    let cut = subst (λ v. IfSpent v (λ b. IsCutAt k c.args.budget (graph_of b))) c.in-Spent.is c.in_ok-interp.ensures.spent in
    record { below = below_without_new_nodes (claims_of c.args.axioms) c.args.names.now k c.in_ok-k.ensures.exact c.args.budget cut.longer }

use Rattle.std.proofs.lemmas.Bool.{false≢true}
use Rattle.std.proofs.Common.{sym, ◌∙◌}
use Rattle.std.proofs.lemmas.Result.{IfOk-weaker}
use Rattle.logic_terms.specs.Reading.{IsModel}
use Rattle.logic_terms.specs.Shown.{claims_of}
use Rattle.owl_eval.specs.Checked.{kept_interp}
use Rattle.tableau_rules.specs.Shown.{graph_of}
use Rattle.reasoner.specs.Verdicts.{Verdict, Consistent, Inconsistent, Spent, IfSpent, SpendsAll}
use Rattle.reasoner.proofs.judging.verdict.Goals as goal

-- what holds anyway holds of a spent verdict
if_spent : {T P : Type 0} → P → (v : Verdict T) → IfSpent v (λ _. P)
if_spent p (Consistent shown) = tt
if_spent p (Inconsistent tree) = tt
if_spent p (Spent b) = p

pub returns-clause-not_kept : goal.returns-clause-not_kept
returns-clause-not_kept c =
    let kept = kept_interp c.args.kept.now in
    let claims = claims_of c.args.axioms in
    let no_model : ¬ IsModel kept claims = λ m. false≢true (sym c.if-is_model_of.false ∙ c.is_model_of.ensures.1 m) in
    IfOk-weaker c.grown_verdict.result (λ v. IfSpent v (λ b. SpendsAll claims c.args.names.now c.args.budget (graph_of b)))
    (λ v. IfSpent v (λ _. ¬ IsModel kept claims))
    (λ v _. if_spent no_model v) c.grown_verdict.ensures.spent

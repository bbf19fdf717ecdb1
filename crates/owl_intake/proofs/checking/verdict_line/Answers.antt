use Rattle.std.proofs.Common.{List, subst}
use Rattle.std.proofs.lemmas.Result.{IfOk-weaker}
use Rattle.wiki_base.specs.declared.numbers.WordId.{WordId}
use Rattle.logic_terms.specs.Shown.{claims_of}
use Rattle.owl_eval.specs.declared.checked.CheckedModel.{CheckedModel}
use Rattle.tableau_rules.specs.Shown.{graph_of}
use Rattle.reasoner.specs.Verdicts.{Verdict, IfSpent, SpendsAll}
use Rattle.owl_intake.specs.Checked.{individuals, TellsVerdict}
use Rattle.owl_intake.proofs.CheckLemmas.{tells_budget}
use Rattle.owl_intake.proofs.checking.verdict_line.Goals as goal

pub returns : goal.returns
returns c =
    let claims = claims_of c.args.doc.axioms in
    let names = individuals c.args.doc.entities in
    let b = c.in-Spent.field-0 in
    let spent : SpendsAll claims c.in_ok-names.names c.args.budget (graph_of b) =
    subst (λ (v : Verdict CheckedModel). IfSpent v (λ b. SpendsAll claims c.in_ok-names.names c.args.budget (graph_of b))) c.in-Spent.is
    c.in_ok-verdict.ensures.spent in
    IfOk-weaker c.from_str-in-Spent.result _ (TellsVerdict c.args.budget claims names)
    (λ line told. tells_budget c.args.budget claims names line (graph_of b)
    (subst (λ (ns : List WordId). SpendsAll claims ns c.args.budget (graph_of b)) c.in_ok-names.ensures spent) told) c.from_str-in-Spent.ensures

-- Verdicts and answers, in the wiki's words.
use Rattle.std.proofs.Common.{◌≡◌, ℕ, List}
use Rattle.std.specs.Prelude.{IfOk}
use Rattle.std.specs.declared.result.Result.{Result}
use Rattle.std.specs.declared.result.Result.TheVariants.{Ok, Err}
use Rattle.wiki_base.specs.declared.numbers.WordId.{WordId}
use Rattle.logic_terms.specs.Concept.{Concept, Claim}
use Rattle.owl_eval.specs.declared.checked.CheckedModel.{CheckedModel}
use Rattle.owl_eval.specs.Checked.{kept_interp}
use Rattle.tableau_rules.specs.Graph.{Graph}
use Rattle.tableau_rules.specs.Shown.{graph_of}
use Rattle.reasoner.specs.Verdicts.{Verdict, Consistent, Inconsistent, Spent, IfConsistent, IfInconsistent, IfSpent, IsFiniteModel, HaveNoModel, SpendsAll}
use Rattle.answers.specs.Answered.{denied, IsUnknown}
use Rattle.wiki_parts.specs.Judgements.{status_in}
use Rattle.wiki_parts.specs.Spending.{IsCutOff}
use Rattle.plain_wiki.specs.Knowledge.{IsAllowed}

-- a search that spent its budget was cut off
pub cut_from_spent : (claims : List Claim) (names : List WordId) (budget : ℕ) (g : Graph) → SpendsAll claims names budget g → IsCutOff budget claims names
cut_from_spent claims names budget g spends = record { knowledge = spends.knowledge; absorbed = spends.absorbed; longer = spends.cut.longer }

-- the status that a verdict gives is allowed
allowed_by : (claims : List Claim) (names : List WordId) (budget : ℕ) (v : Verdict CheckedModel)
    → IfConsistent v (λ m. IsFiniteModel (kept_interp m) claims) → IfInconsistent v (λ _. HaveNoModel claims)
    → IfSpent v (λ b. SpendsAll claims names budget (graph_of b)) → IsAllowed claims names (IsCutOff budget) (status_in v)
allowed_by claims names budget (Consistent m) model none spent = (kept_interp m, model)
allowed_by claims names budget (Inconsistent tree) model none spent = none
allowed_by claims names budget (Spent b) model none spent = cut_from_spent claims names budget (graph_of b) spent

pub allowed_result : {E : Type 0} (claims : List Claim) (names : List WordId) (budget : ℕ) (r : Result (Verdict CheckedModel) E)
    → IfOk r (λ v. IfConsistent v (λ m. IsFiniteModel (kept_interp m) claims)) → IfOk r (λ v. IfInconsistent v (λ _. HaveNoModel claims))
    → IfOk r (λ v. IfSpent v (λ b. SpendsAll claims names budget (graph_of b))) → IfOk r (λ v. IsAllowed claims names (IsCutOff budget) (status_in v))
allowed_result claims names budget (Ok v) model none spent = allowed_by claims names budget v model none spent
allowed_result claims names budget (Err e) model none spent = tt

-- a search over a denial that spent its budget was cut off too
pub cut_from_unknown : (claims : List Claim) (names : List WordId) (budget : ℕ) (c : Concept) (name : WordId) → IsUnknown claims names budget c name
    → IsCutOff budget (denied claims c name) names
cut_from_unknown claims names budget c name unknown = record { knowledge = unknown.knowledge; absorbed = unknown.absorbed; longer = unknown.longer }

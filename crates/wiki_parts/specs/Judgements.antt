-- What becomes of a statement.
use Rattle.std.specs.Prelude.{Option, Some, None}
use Rattle.reasoner.specs.Verdicts.{Verdict, Consistent, Inconsistent, Spent}
use Rattle.wiki_talk.specs.declared.statuses.Status.{Status}
use Rattle.wiki_talk.specs.declared.statuses.Status.TheVariants.{Asserted, RedContradiction, RedBudget}

-- the status that a verdict on all axioms gives to a statement
abbrev pub status_in : {T : Type 0} → Verdict T → Status
status_in (Consistent model) = Asserted
status_in (Inconsistent tree) = RedContradiction
status_in (Spent b) = RedBudget

-- the model of all axioms, where there is one
abbrev pub model_in : {T : Type 0} → Verdict T → Option T
model_in (Consistent model) = Some model
model_in (Inconsistent tree) = None
model_in (Spent b) = None

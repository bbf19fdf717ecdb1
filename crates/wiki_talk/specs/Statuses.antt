-- The names of statuses and of causes.
use Rattle.std.specs.Prelude.{ℕ, List, codes, Bool, true, false, Option, Some, None}
use Rattle.logic_terms.specs.declared.cause.Cause.{Cause}
use Rattle.logic_terms.specs.declared.cause.Cause.TheVariants.{Shared, Cycle, NoRoot, Equality, Free}
use Rattle.wiki_talk.specs.declared.statuses.Status.{Status}
use Rattle.wiki_talk.specs.declared.statuses.Status.TheVariants.{Asserted, Retracted, RedContradiction, RedBudget, Outside, Question, QuestionOutside}

-- the name that lines and pages tell of a status
abbrev pub status_name : Status → List ℕ
status_name Asserted = codes "asserted"
status_name Retracted = codes "retracted"
status_name RedContradiction = codes "contradiction"
status_name RedBudget = codes "budget"
status_name (Outside cause) = codes "outside"
status_name Question = codes "question"
status_name (QuestionOutside cause) = codes "question-outside"

-- why a sentence has no axioms and asks for no class, where its status says so
abbrev pub cause_in : Status → Option Cause
cause_in (Outside cause) = Some cause
cause_in (QuestionOutside cause) = Some cause
cause_in _ = None

-- the name that lines and pages tell of a cause
abbrev pub cause_name : Cause → List ℕ
cause_name Shared = codes "shared"
cause_name Cycle = codes "cycle"
cause_name NoRoot = codes "noroot"
cause_name Equality = codes "equality"
cause_name Free = codes "free"

-- a question that asks for a class
abbrev pub is_question : Status → Bool
is_question Question = true
is_question other = false

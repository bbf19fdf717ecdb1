use Rattle.std.proofs.Common.{take}
use Rattle.logic_terms.specs.Shown.{concept_of}
use Rattle.owl_eval.specs.Checked.{kept_interp, kept_claims}
use Rattle.answers.proofs.AskedLemmas.{AskedSoFar}
use Rattle.answers.proofs.asking.each_decided.Given as goal

abbrev pub invariant-loop-name : goal.invariant-loop-name
invariant-loop-name l = AskedSoFar (kept_interp l.question.kept.now) (kept_claims l.question.kept.now) l.question.names.now l.question.budget
    (concept_of l.question.class.now) (take l.name-index l.name-items) l.yes l.unknown

-- Whatever tokens mean keeps their truth: the structure of a derivation's skeleton introduces each referent once, and a mapping of
-- such a structure keeps its truth.
use Rattle.std.proofs.Common.{◌≡◌, ℕ, Bool, true, false, cond, List, [], Option, Some, None, Result, Ok, Err, Contains, IsTrue, refl, sym, subst}
use Rattle.codeco_terms.specs.GrammarParts.{GrammarParts}
use Rattle.codeco_checked.specs.Sound.{IsSound, is_labelled}
use Rattle.lexicon.specs.Words.{Listed}
use Rattle.derivation_trees.specs.declared.skeletons.Skeleton.{Skeleton}
use Rattle.logic_terms.specs.declared.cause.Cause.{Cause}
use Rattle.logic_terms.specs.Concept.{Concept, Claim}
use Rattle.logic_terms.specs.Structure.{Structure, referents_in}
use Rattle.logic_terms.specs.Free.{free_in}
use Rattle.logic_terms.specs.Introduced.{IntroducesOnce}
use Rattle.ace_to_owl.specs.Mapping.{axioms_stated, class_asked}
use Rattle.ace_to_owl.proofs.Keeps.{statement_keeps, statement_reads, question_keeps, question_reads}
use Rattle.drs_build.specs.Nodes.{meaning_of}
use Rattle.drs_build.specs.Built.{IsDerived, is_question}
use Rattle.drs_build.proofs.DerivedLemmas.{derived_once, least_derived}
use Rattle.drs_build.proofs.QuestionLemmas.{asked_introduced}
use Rattle.plain_wiki.specs.Meanings.{statement_by, question_by, statement_meaning, question_meaning, skeleton_meaning, KeepsTruth, MeansFaithfully}

stated : (k : Structure) (asked : ℕ) (made : Result (List Claim) Cause) → IntroducesOnce k → axioms_stated k ≡ made → KeepsTruth k asked (statement_by made)
stated k asked (Ok claims) once is = (statement_keeps k claims is once, statement_reads k claims is once)
stated k asked (Err cause) once is = tt

asks : (k : Structure) (asked : ℕ) (made : Result Concept Cause) → IntroducesOnce k → Contains (referents_in k) asked → class_asked k asked ≡ made
    → KeepsTruth k asked (question_by made)
asks k asked (Ok concept) once own is = (question_keeps k asked concept is once own, question_reads k asked concept is once own)
asks k asked (Err cause) once own is = tt

statement_truth : (k : Structure) (asked : ℕ) (free : Option ℕ) → IntroducesOnce k → KeepsTruth k asked (statement_meaning k free)
statement_truth k asked None once = stated k asked (axioms_stated k) once refl
statement_truth k asked (Some referent) once = tt

question_truth : (k : Structure) (asked : ℕ) (free : Option ℕ) → IntroducesOnce k → Contains (referents_in k) asked
    → KeepsTruth k asked (question_meaning k asked free)
question_truth k asked None once own = asks k asked (class_asked k asked) once own refl
question_truth k asked (Some referent) once own = tt

-- the meaning of a derivation's skeleton keeps the truth of its structure
skeleton_truth : (g : GrammarParts) (sk : Skeleton) → IsSound g → IsTrue (is_labelled g) → IsDerived g sk
    → KeepsTruth (meaning_of g sk).says (meaning_of g sk).referent (skeleton_meaning g sk)
skeleton_truth g sk sound labelled derived = by (is_question g sk) refl
  where
    once : IntroducesOnce (meaning_of g sk).says
    once = derived_once g sk sound derived

    by : (b : Bool) → is_question g sk ≡ b
        → KeepsTruth (meaning_of g sk).says (meaning_of g sk).referent
        (cond b (question_meaning (meaning_of g sk).says (meaning_of g sk).referent (free_in [] (meaning_of g sk).says))
        (statement_meaning (meaning_of g sk).says (free_in [] (meaning_of g sk).says)))
    by true is =
        question_truth (meaning_of g sk).says (meaning_of g sk).referent (free_in [] (meaning_of g sk).says) once
        (asked_introduced g sk (meaning_of g sk).says (meaning_of g sk).referent sound labelled derived is refl refl)
    by false is = statement_truth (meaning_of g sk).says (meaning_of g sk).referent (free_in [] (meaning_of g sk).says) once

pub means_faithfully : (g : GrammarParts) (words : Listed) (tokens : List (List ℕ)) → IsSound g → IsTrue (is_labelled g) → MeansFaithfully g words tokens
means_faithfully g words tokens sound labelled meaning means = record {
  least = means.least;
  is_least = means.is_least;
  keeps = subst (KeepsTruth (meaning_of g means.least).says (meaning_of g means.least).referent) (sym means.is)
      (skeleton_truth g means.least sound labelled (least_derived g words tokens means.least means.is_least));
}

-- What sentences mean: the axioms that they state, or the class that they ask for.
use Rattle.std.specs.Prelude.{◌≡◌, ℕ, List, [], Option, Some, None, Result, Ok, Err, if◌then◌else◌}
use Rattle.codeco_terms.specs.GrammarParts.{GrammarParts}
use Rattle.lexicon.specs.Words.{Listed}
use Rattle.derivation_trees.specs.declared.skeletons.Skeleton.{Skeleton}
use Rattle.derivation_trees.specs.Skeletons.{IsLeastSkeleton}
use Rattle.logic_terms.specs.declared.cause.Cause.{Cause}
use Rattle.logic_terms.specs.declared.cause.Cause.TheVariants.{Free}
use Rattle.logic_terms.specs.Concept.{Concept, Claim}
use Rattle.logic_terms.specs.Structure.{Structure}
use Rattle.logic_terms.specs.Free.{free_in}
use Rattle.ace_to_owl.specs.Mapping.{axioms_stated, class_asked}
use Rattle.ace_to_owl.specs.Truths.{SameTruth, SameReading, AnswersTruly, AnswersByReading}
use Rattle.drs_build.specs.Nodes.{meaning_of}
use Rattle.drs_build.specs.Built.{is_question}

-- A statement states axioms, and a question asks for a class; or it is outside of what is mapped, for a cause.
pub data Meaning : Type 0 where
  stating : List Claim → Meaning
  outside : Cause → Meaning
  asking : Concept → Meaning
  asking_outside : Cause → Meaning

-- a statement by its axioms, or by the cause that it has none
abbrev pub statement_by : Result (List Claim) Cause → Meaning
statement_by (Ok claims) = stating claims
statement_by (Err cause) = outside cause

-- a question by its class, or by the cause that it has none
abbrev pub question_by : Result Concept Cause → Meaning
question_by (Ok concept) = asking concept
question_by (Err cause) = asking_outside cause

-- the meaning of a statement with this structure, where no referent is free
abbrev pub statement_meaning : Structure → Option ℕ → Meaning
statement_meaning says None = statement_by (axioms_stated says)
statement_meaning says (Some referent) = outside Free

-- the meaning of a question with this structure for a referent, where no referent is free
abbrev pub question_meaning : Structure → ℕ → Option ℕ → Meaning
question_meaning says asked None = question_by (class_asked says asked)
question_meaning says asked (Some referent) = asking_outside Free

-- the meaning of a skeleton, by its structure
abbrev pub skeleton_meaning : GrammarParts → Skeleton → Meaning
skeleton_meaning g sk =
    if is_question g sk then question_meaning (meaning_of g sk).says (meaning_of g sk).referent (free_in [] (meaning_of g sk).says)
    else statement_meaning (meaning_of g sk).says (free_in [] (meaning_of g sk).says)

-- the tokens have this meaning: that of their least skeleton
pub record Means (g : GrammarParts) (words : Listed) (tokens : List (List ℕ)) (meaning : Meaning) : Type 0 where
  pub least : Skeleton
  pub is_least : IsLeastSkeleton g words tokens least
  pub is : meaning ≡ skeleton_meaning g least

-- A meaning keeps the truth of a structure, and of the referent that it asks for, as a test and as a fact of the standards: the
-- structure is true exactly where all the axioms are; or an element is in the class exactly where the structure without that
-- referent is true with the element for it.
abbrev pub KeepsTruth : Structure → ℕ → Meaning → Type 0
KeepsTruth says asked (stating claims) = SameTruth says claims × SameReading says claims
KeepsTruth says asked (asking concept) = AnswersTruly says asked concept × AnswersByReading says asked concept
KeepsTruth says asked _ = Unit {0}

-- the meaning keeps the truth of the tokens: that of the structure of their least skeleton
pub record IsFaithful (g : GrammarParts) (words : Listed) (tokens : List (List ℕ)) (meaning : Meaning) : Type 0 where
  pub least : Skeleton
  pub is_least : IsLeastSkeleton g words tokens least
  pub keeps : KeepsTruth (meaning_of g least).says (meaning_of g least).referent meaning

-- whatever the tokens mean keeps their truth
abbrev pub MeansFaithfully : GrammarParts → Listed → List (List ℕ) → Type 0
MeansFaithfully g words tokens = (meaning : Meaning) → Means g words tokens meaning → IsFaithful g words tokens meaning

-- What tokens are read as: by the structure of their least skeleton, and by its mapping to axioms.
use Rattle.std.specs.Prelude.{◌≡◌, ℕ, List, [], ◌∷◌, Option, Some, None, Result, Ok, Err, if◌then◌else◌}
use Rattle.codeco_terms.specs.GrammarParts.{GrammarParts}
use Rattle.lexicon.specs.Words.{Listed}
use Rattle.derivation_trees.specs.declared.skeletons.Skeleton.{Skeleton}
use Rattle.derivation_trees.specs.Sentences.{IsSentence}
use Rattle.derivation_trees.specs.Skeletons.{IsLeastSkeleton}
use Rattle.logic_terms.specs.declared.cause.Cause.{Cause}
use Rattle.logic_terms.specs.declared.cause.Cause.TheVariants.{Free}
use Rattle.logic_terms.specs.Concept.{Claim}
use Rattle.logic_terms.specs.Structure.{Structure}
use Rattle.logic_terms.specs.Free.{free_in}
use Rattle.ace_to_owl.specs.Mapping.{axioms_stated}
use Rattle.drs_build.specs.Nodes.{meaning_of}
use Rattle.drs_build.specs.Built.{is_question}

-- No derivation; a question; a statement that has no axioms, for a cause; or one that states axioms.
pub data Understood : Type 0 where
  no_sentence : Understood
  question : Understood
  outside : Cause → Understood
  stating : List Claim → Understood

-- a statement by its axioms, or by the cause that it has none
abbrev pub statement_by : Result (List Claim) Cause → Understood
statement_by (Ok claims) = stating claims
statement_by (Err cause) = outside cause

-- a statement with this structure, where no referent is free
abbrev pub statement : Structure → Option ℕ → Understood
statement says None = statement_by (axioms_stated says)
statement says (Some referent) = outside Free

-- what a skeleton is read as
abbrev pub skeleton_read : GrammarParts → Skeleton → Understood
skeleton_read g sk = if is_question g sk then question else statement (meaning_of g sk).says (free_in [] (meaning_of g sk).says)

-- the tokens have a derivation, and their least skeleton is read as this
pub record IsRead (g : GrammarParts) (words : Listed) (tokens : List (List ℕ)) (as_this : Understood) : Type 0 where
  pub least : Skeleton
  pub is_least : IsLeastSkeleton g words tokens least
  pub is : as_this ≡ skeleton_read g least

-- the tokens are read as this
abbrev pub ReadsAs : GrammarParts → Listed → List (List ℕ) → Understood → Type 0
ReadsAs g words tokens no_sentence = ¬ IsSentence g words tokens
ReadsAs g words tokens understood = IsRead g words tokens understood

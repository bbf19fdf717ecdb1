-- What is answered for an axiom.
use Rattle.std.specs.Prelude.{◌≡◌, ◌≢◌, ◌<◌, ◌↔◌, ℕ, Bool, true, false, List, [], ◌∷◌, length, min, Some}
use Rattle.wiki_base.specs.declared.tokens.TheConstants.{MOST_TOKENS}
use Rattle.codeco_terms.specs.GrammarParts.{GrammarParts}
use Rattle.lexicon.specs.Words.{Listed}
use Rattle.derivation_trees.specs.declared.skeletons.Skeleton.{Skeleton}
use Rattle.derivation_trees.specs.Skeletons.{IsLeastSkeleton}
use Rattle.logic_terms.specs.Concept.{Claim}
use Rattle.logic_terms.specs.Interpretation.{Interpretation, is_interpretation}
use Rattle.logic_terms.specs.Reading.{Holds, IsTrueUnder}
use Rattle.logic_terms.specs.Shown.{claims_of}
use Rattle.drs_build.specs.Nodes.{meaning_of}
use Rattle.verbalise.specs.declared.readings.Reading.{Reading}
use Rattle.verbalise.specs.declared.readings.Reading.TheVariants as readings
use Rattle.verbalise.specs.declared.saying.Spoken.{Spoken}
use Rattle.verbalise.specs.declared.saying.Spoken.TheVariants.{Sentence, NoPattern, TooLong, ReadOtherwise}
use Rattle.verbalise.specs.Said.{said}
use Rattle.verbalise.specs.Readings.{Understood, no_sentence, question, outside, stating, ReadsAs}

-- a reading as the program holds it
abbrev pub reading_shown : Reading → Understood
reading_shown readings.NoSentence = no_sentence
reading_shown readings.Question = question
reading_shown (readings.Outside cause) = outside cause
reading_shown (readings.Axioms axioms) = stating (claims_of axioms)

-- a sentence: the axiom is said as these tokens, they have a derivation, and their least skeleton states exactly that axiom
abbrev pub SaysExactly : GrammarParts → Listed → Claim → Spoken → Type 0
SaysExactly g words claim (Sentence tokens) = (said words.live claim ≡ Some tokens) × ReadsAs g words tokens (stating (claim ∷ []))
SaysExactly g words claim _ = Unit {0}

-- no pattern fits
abbrev pub is_no_pattern : Spoken → Bool
is_no_pattern NoPattern = true
is_no_pattern _ = false

-- a number as it is told, at most 4,294,967,295
abbrev pub told : ℕ → ℕ
told n = min n 4294967295

-- the axiom is said as too many tokens, and so many are told
pub record IsTooLong (words : Listed) (claim : Claim) (n : ℕ) : Type 0 where
  pub tokens : List (List ℕ)
  pub is_said : said words.live claim ≡ Some tokens
  pub long : MOST_TOKENS < length tokens
  pub number : n ≡ told (length tokens)

-- a sentence that is read otherwise: the axiom is said as these tokens, and what they are read as isn't exactly that axiom
abbrev pub ReadsOtherwise : GrammarParts → Listed → Claim → Spoken → Type 0
ReadsOtherwise g words claim (ReadOtherwise tokens reading) =
    (said words.live claim ≡ Some tokens) × ReadsAs g words tokens (reading_shown reading) × (reading_shown reading ≢ stating (claim ∷ []))
ReadsOtherwise g words claim _ = Unit {0}

-- the tokens and the axiom are true in the same finite interpretations, by the standards: the structure of the least skeleton,
-- under any assignment, and the axiom
pub record AreTrueTogether (g : GrammarParts) (words : Listed) (tokens : List (List ℕ)) (claim : Claim) : Type 0 where
  pub least : Skeleton
  pub is_least : IsLeastSkeleton g words tokens least
  pub same : (i : Interpretation) → is_interpretation i ≡ true → (f : ℕ → ℕ) → IsTrueUnder i (meaning_of g least).says f ↔ Holds i claim

-- a sentence is true where the axiom is
abbrev pub SaysTruly : GrammarParts → Listed → Claim → Spoken → Type 0
SaysTruly g words claim (Sentence tokens) = AreTrueTogether g words tokens claim
SaysTruly g words claim _ = Unit {0}

-- what is answered for an axiom that is said as these tokens, each answer by what makes it right
abbrev pub Answers : GrammarParts → Listed → Claim → List (List ℕ) → Spoken → Type 0
Answers g words claim said_as (Sentence tokens) = (tokens ≡ said_as) × ReadsAs g words tokens (stating (claim ∷ []))
Answers g words claim said_as NoPattern = ⊥
Answers g words claim said_as (TooLong n) = ⊥
Answers g words claim said_as (ReadOtherwise tokens reading) =
    (tokens ≡ said_as) × ReadsAs g words tokens (reading_shown reading) × (reading_shown reading ≢ stating (claim ∷ []))

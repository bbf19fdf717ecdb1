-- What the mapping keeps: truth in every finite interpretation, under every assignment.
use Rattle.std.specs.Prelude.{ℕ, ◌≡◌, ◌↔◌, Bool, true, not, List, Option, Some, None}
use Rattle.logic_terms.specs.declared.structures.Thing.{Thing}
use Rattle.logic_terms.specs.declared.structures.Thing.TheVariants.{Ref, Name}
use Rattle.logic_terms.specs.Concept.{Concept, Claim}
use Rattle.logic_terms.specs.Structure.{Structure}
use Rattle.logic_terms.specs.Free.{is_bound}
use Rattle.logic_terms.specs.Introduced.{introduced_in, IntroducesOnce}
use Rattle.logic_terms.specs.Interpretation.{Interpretation, is_interpretation}
use Rattle.logic_terms.specs.Meaning.{is_in, all_hold}
use Rattle.logic_terms.specs.Truth.{giving, thing_in, is_true}
use Rattle.logic_terms.specs.Reading.{IsIn, IsModel, IsTrueUnder}
use Rattle.ace_to_owl.specs.Mapping.{without}

-- an element is what a root has, by its name or by the assignment; a root that occurs nowhere has any
abbrev pub Stands : Interpretation → (ℕ → ℕ) → Option Thing → ℕ → Type 0
Stands i f None x = Unit {0}
Stands i f (Some t) x = thing_in i f t ≡ x

-- a root is not introduced in a structure
abbrev pub is_outside : Option Thing → Structure → Bool
is_outside None k = true
is_outside (Some (Ref q)) k = not (is_bound (introduced_in k) q)
is_outside (Some (Name name)) k = true

-- where each referent is introduced once, and the root nowhere: an element is in the class exactly where the structure is
-- true with it for the root, in every finite interpretation and under every assignment
abbrev pub RollsTruly : Option Thing → Structure → Concept → Type 0
RollsTruly root k c =
    IntroducesOnce k → is_outside root k ≡ true → (i : Interpretation) (f : ℕ → ℕ) (x : ℕ) → Stands i f root x → is_in i c x ≡ is_true i k f

-- the structure is true exactly where all these axioms are, in every finite interpretation and under every assignment
abbrev pub SameTruth : Structure → List Claim → Type 0
SameTruth k claims = (i : Interpretation) → is_interpretation i ≡ true → (f : ℕ → ℕ) → is_true i k f ≡ all_hold i claims

-- the same as facts, by the standards
abbrev pub SameReading : Structure → List Claim → Type 0
SameReading k claims = (i : Interpretation) → is_interpretation i ≡ true → (f : ℕ → ℕ) → IsTrueUnder i k f ↔ IsModel i claims

-- an element is in the class exactly where the structure without the referent that is asked for is true with the element for
-- that referent, in every finite interpretation and under every assignment
abbrev pub AnswersTruly : Structure → ℕ → Concept → Type 0
AnswersTruly k asked c = (i : Interpretation) (f : ℕ → ℕ) (x : ℕ) → is_in i c x ≡ is_true i (without asked k) (giving f asked x)

-- the same as facts, by the standards
abbrev pub AnswersByReading : Structure → ℕ → Concept → Type 0
AnswersByReading k asked c = (i : Interpretation) (f : ℕ → ℕ) (x : ℕ) → IsIn i c x ↔ IsTrueUnder i (without asked k) (giving f asked x)

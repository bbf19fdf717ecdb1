-- What the calls of this crate answer, against what the mapping gives.
use Rattle.std.specs.Prelude.{◌≡◌, List, [], ◌∷◌, Result, Ok, Err, Option, Some, None}
use Rattle.logic_terms.specs.declared.cause.Cause.{Cause}
use Rattle.logic_terms.specs.Concept.{Concept, Claim}
use Rattle.logic_terms.specs.Shown.{concept_of, claims_of}
use Rattle.ace_to_owl.specs.declared.mapping.Mapped.{Mapped}
use Rattle.ace_to_owl.specs.declared.mapping.Mapped.TheVariants as mapped_answer
use Rattle.ace_to_owl.specs.declared.mapping.Asked.{Asked}
use Rattle.ace_to_owl.specs.declared.mapping.Asked.TheVariants as asked_answer
use Rattle.ace_to_owl.specs.declared.fault.Fault.{Fault}
use Rattle.ace_to_owl.specs.declared.fault.Fault.TheVariants.{Outside, Memory}
use Rattle.ace_to_owl.specs.declared.part.Part as rolled
use Rattle.ace_to_owl.specs.declared.part.Part.TheVariants as rolled_part
use Rattle.ace_to_owl.specs.Parts.{Part, At, Edge}

-- the part that a value stands for
abbrev pub part_shown : rolled.Part → Part
part_shown (rolled_part.At n class) = At n (concept_of class)
part_shown (rolled_part.Edge word a b) = Edge word a b

-- the wanted value, or the wanted cause, or want of memory
abbrev pub Agrees : {X Y : Type 0} → (X → Y) → Result X Fault → Result Y Cause → Type 0
Agrees shown (Ok x) wanted = wanted ≡ Ok (shown x)
Agrees shown (Err (Outside cause)) wanted = wanted ≡ Err cause
Agrees shown (Err Memory) wanted = Unit {0}

abbrev pub option_shown : {X Y : Type 0} → (X → Y) → Option X → Option Y
option_shown shown (Some x) = Some (shown x)
option_shown shown None = None

-- an optional item as a list
abbrev pub listed : {X : Type 0} → Option X → List X
listed (Some x) = x ∷ []
listed None = []

-- what an answer says of the mapping: the axioms or the class, or the cause why there is none
abbrev pub mapped : Mapped → Result (List Claim) Cause
mapped (mapped_answer.Axioms axioms) = Ok (claims_of axioms)
mapped (mapped_answer.Outside cause) = Err cause

abbrev pub asked : Asked → Result Concept Cause
asked (asked_answer.Class class) = Ok (concept_of class)
asked (asked_answer.Outside cause) = Err cause

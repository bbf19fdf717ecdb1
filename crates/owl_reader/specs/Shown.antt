-- What is read of a text.
use Rattle.std.specs.Prelude.{◌≡◌, ℕ, Bool, List, Result, Ok, Err}
use Rattle.logic_terms.specs.Concept.{Claim}
use Rattle.logic_terms.specs.Shown.{claims_of}
use Rattle.owl_tokens.specs.Tokens.{Token, Ending, Cuts, ending_of, IsCut}
use Rattle.owl_reader.specs.declared.kinds.Entity.{Entity}
use Rattle.owl_reader.specs.declared.faults.OwlFault.{OwlFault}
use Rattle.owl_reader.specs.declared.faults.OwlFault.TheVariants as fault
use Rattle.owl_reader.specs.declared.reading.OwlDoc.{OwlDoc}
use Rattle.owl_reader.specs.Reading.{fresh_state, reading}

-- a reading answers this, unless memory ran out
abbrev pub Fails : Result (List Entity × List Claim) OwlFault → OwlFault → Type 0
Fails read fault.Memory = Unit {0}
Fails read (fault.Syntax at) = read ≡ Err (fault.Syntax at)
Fails read (fault.Unsupported at) = read ≡ Err (fault.Unsupported at)
Fails read (fault.Prefix at) = read ≡ Err (fault.Prefix at)
Fails read (fault.TooDeep at) = read ≡ Err (fault.TooDeep at)

abbrev pub Answers : Result (List Entity × List Claim) OwlFault → Result OwlDoc OwlFault → Type 0
Answers read (Ok doc) = read ≡ Ok (doc.entities, claims_of doc.axioms)
Answers read (Err e) = Fails read e

-- the front of a text that is UTF-8 is read, which may be the whole of it
abbrev pub ReadsFront : List ℕ → Bool → Result OwlDoc OwlFault → Type 0
ReadsFront front whole result =
    (tokens : List Token) × (ending : Ending) × Cuts front 0 tokens ending × Answers (reading fresh_state tokens (ending_of whole ending)) result

-- a text is cut into tokens in one way, and these are read
abbrev pub Reads : List ℕ → Result OwlDoc OwlFault → Type 0
Reads text result = (tokens : List Token) × (ending : Ending) × IsCut text tokens ending × Answers (reading fresh_state tokens ending) result

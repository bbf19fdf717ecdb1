-- What is told of a file: whether what it says has a finite model, or its first fault.
use Rattle.std.specs.Prelude.{◌≡◌, ◌≢◌, ◌⊎◌, ℕ, ◌+◌, Bool, true, false, if◌then◌else◌, List, [], ◌∷◌, ◌++◌, codes}
use Rattle.std.specs.Fmt.{decimal}
use Rattle.wiki_base.specs.declared.numbers.WordId.{WordId}
use Rattle.logic_terms.specs.Concept.{Claim}
use Rattle.logic_terms.specs.Interpretation.{Interpretation}
use Rattle.logic_terms.specs.Theory.{Theory}
use Rattle.absorb.specs.Absorbed.{IsAbsorbed}
use Rattle.tableau_rules.specs.Searching.{IsLonger}
use Rattle.reasoner.specs.Verdicts.{IsFiniteModel, HaveNoModel}
use Rattle.owl_reader.specs.declared.faults.OwlFault.{OwlFault}
use Rattle.owl_reader.specs.declared.faults.OwlFault.TheVariants as fault
use Rattle.owl_reader.specs.declared.kinds.Entity.{Entity}
use Rattle.owl_reader.specs.declared.kinds.EntityKind.{EntityKind}
use Rattle.owl_reader.specs.declared.kinds.EntityKind.TheVariants as kind
use Rattle.owl_grammar.specs.Files.{IsOwlFile}
use Rattle.owl_grammar.specs.Faults.{IsFault}

abbrev pub is_individual : EntityKind → Bool
is_individual kind.Individual = true
is_individual other = false

-- the words of the individuals among entities, of which the first has this number
abbrev pub individuals_from : ℕ → List Entity → List WordId
individuals_from n [] = []
individuals_from n (e ∷ es) = if is_individual e.kind then record { 0 = n } ∷ individuals_from (n + 1) es else individuals_from (n + 1) es

-- the words of the individuals: entities are numbered from 1
abbrev pub individuals : List Entity → List WordId
individuals es = individuals_from 1 es

-- the systematic search over the axioms, absorbed with these names, has not ended after so many rule applications
pub record IsUndecided (claims : List Claim) (names : List WordId) (budget : ℕ) : Type 0 where
  pub knowledge : Theory
  pub absorbed : IsAbsorbed claims names knowledge
  pub longer : IsLonger knowledge budget

-- the line of a verdict: axioms have a finite model, or they have none, or the search was cut off
abbrev pub TellsVerdict : ℕ → List Claim → List WordId → List ℕ → Type 0
TellsVerdict budget claims names line =
    (((i : Interpretation) × IsFiniteModel i claims) × (line ≡ codes "consistent\n"))
    ⊎ ((HaveNoModel claims × (line ≡ codes "inconsistent\n"))
    ⊎ (IsUndecided claims names budget × (line ≡ codes "budget\n")))

-- the line of a fault: its name, a space, and its byte
abbrev pub fault_line : OwlFault → List ℕ
fault_line (fault.Syntax at) = codes "Syntax" ++ (codes " " ++ (decimal at ++ codes "\n"))
fault_line (fault.Unsupported at) = codes "Unsupported" ++ (codes " " ++ (decimal at ++ codes "\n"))
fault_line (fault.Prefix at) = codes "Prefix" ++ (codes " " ++ (decimal at ++ codes "\n"))
fault_line (fault.TooDeep at) = codes "TooDeep" ++ (codes " " ++ (decimal at ++ codes "\n"))
fault_line fault.Memory = []

-- What is told of a text: of a file, by the grammar of files, the verdict on its axioms, over the individuals among its entities; else the
-- fault of its first token that has one.
abbrev pub TellsCheck : ℕ → List ℕ → List ℕ → Type 0
TellsCheck budget text line =
    ((entities : List Entity) × (claims : List Claim) × IsOwlFile text entities claims × TellsVerdict budget claims (individuals entities) line)
    ⊎ ((f : OwlFault) × (f ≢ fault.Memory) × IsFault text f × (line ≡ fault_line f))

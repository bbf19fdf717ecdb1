-- What the answer of one name says. Only private calls speak of it.
use Rattle.std.specs.Prelude.{ℕ, List}
use Rattle.wiki_base.specs.declared.numbers.WordId.{WordId}
use Rattle.logic_terms.specs.Concept.{Concept, Claim}
use Rattle.logic_terms.specs.Interpretation.{Interpretation, element_of}
use Rattle.logic_terms.specs.Reading.{IsIn}
use Rattle.answers.specs.declared.asking.Asked.{Asked}
use Rattle.answers.specs.declared.asking.Asked.TheVariants.{Yes, Unknown, No}
use Rattle.answers.specs.Answered.{IsInAll, IsOutsideSome, IsUnknown}

-- yes: in every finite model; unknown: the search was cut, and the kept interpretation has it; no: outside in some finite model
abbrev pub Answered : Interpretation → List Claim → List WordId → ℕ → Concept → WordId → Asked → Type 0
Answered kept claims names budget c name Yes = IsInAll claims c name
Answered kept claims names budget c name Unknown = IsUnknown claims names budget c name × IsIn kept c (element_of kept name)
Answered kept claims names budget c name No = IsOutsideSome claims c name

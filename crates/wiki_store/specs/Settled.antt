-- What is not made anew: statuses that need no search, and what all that is known is absorbed to. Only private calls speak of it.
use Rattle.std.specs.Prelude.{List}
use Rattle.wiki_base.specs.declared.numbers.WordId.{WordId}
use Rattle.absorb.specs.Absorbed.{IsAbsorbed}
use Rattle.logic_terms.specs.Concept.{Claim}
use Rattle.logic_terms.specs.Theory.{Theory}
use Rattle.plain_wiki.specs.State.{Stored}
use Rattle.plain_wiki.specs.Knowledge.{Knows}
use Rattle.logic_terms.specs.Interpretation.{Interpretation}
use Rattle.logic_terms.specs.Reading.{IsModel}
use Rattle.plain_wiki.specs.Meanings.{Meaning, stating}

-- a statement whose axioms are true in the interpretation
abbrev pub IsTrueIn : Interpretation → Meaning → Type 0
IsTrueIn i (stating claims) = IsModel i claims
IsTrueIn _ _ = ⊥

-- what the wiki knows is absorbed to this knowledge, with these names
abbrev pub AbsorbsKnown : Stored → List WordId → Theory → Type 0
AbsorbsKnown state names knowledge = (claims : List Claim) → Knows state claims → IsAbsorbed claims names knowledge

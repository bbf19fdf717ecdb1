-- What a wiki knows, as an ontology in a file.
use Rattle.std.specs.Prelude.{◌≡◌, ℕ, List}
use Rattle.logic_terms.specs.Concept.{Claim}
use Rattle.owl_file.specs.Written.{file_text}
use Rattle.plain_wiki.specs.State.{Stored}
use Rattle.plain_wiki.specs.Knowledge.{Knows}

-- the file of a wiki's live words and of all that it knows
pub record TellsFile (state : Stored) (text : List ℕ) : Type 0 where
  pub claims : List Claim
  pub known : Knows state claims
  pub told : text ≡ file_text state.words claims

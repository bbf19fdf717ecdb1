-- What is made of an ontology: the lines of requests that make a wiki of it, and a line for each axiom that is left out.
use Rattle.std.specs.Prelude.{◌≡◌, ℕ, List, [], ◌++◌}
use Rattle.std.specs.List.{flat_map}
use Rattle.codeco_terms.specs.GrammarParts.{GrammarParts}
use Rattle.lexicon.specs.Words.{Listed}
use Rattle.ace_grammar.specs.Grammar.{ace_grammar}
use Rattle.logic_terms.specs.Concept.{Claim}
use Rattle.owl_reader.specs.declared.kinds.Entity.{Entity}
use Rattle.owl_grammar.specs.Files.{IsOwlFile}
use Rattle.owl_import.specs.Words.{AreWordsOf, word_lines, wordless}
use Rattle.owl_import.specs.Sentences.{Fate, AreFates, add_line, left_line}

-- What is made of entities and axioms: a word for each entity, and of each axiom a sentence, where it has one, or a line that tells that it
-- is left out.
pub record MakesLines (g : GrammarParts) (entities : List Entity) (claims : List Claim) (requests left_out : List ℕ) : Type 0 where
  pub words : Listed
  pub named : AreWordsOf g entities words
  pub fates : List Fate
  pub each : AreFates g words [] claims fates
  pub asked : requests ≡ word_lines words ++ flat_map (add_line g) fates
  pub told : left_out ≡ flat_map (left_line words (wordless entities)) fates

-- what is made of a text: of what it says as a file, by the wiki's own grammar
pub record Imports (text requests left_out : List ℕ) : Type 0 where
  pub entities : List Entity
  pub claims : List Claim
  pub says : IsOwlFile text entities claims
  pub makes : MakesLines ace_grammar entities claims requests left_out

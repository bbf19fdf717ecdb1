-- The file of words and axioms in the functional-style syntax of OWL 2. Each word is an entity of the namespace
-- urn:acewiki:, named by its canonical form.
-- After OWL 2, Structural Specification, sections 3.7 and 5.8.
use Rattle.std.specs.Prelude.{ℕ, ◌++◌, List, [], ◌∷◌, map, slice_get, unwrap_or, codes}
use Rattle.std.specs.List.{flat_map}
use Rattle.lexicon.specs.declared.kinds.Kind.{Kind}
use Rattle.lexicon.specs.declared.words.Word.{Word}
use Rattle.lexicon.specs.Kinds.{canonical_place}
use Rattle.lexicon.specs.Words.{Listed, canonical_form_of}
use Rattle.logic_terms.specs.Concept.{Claim}
use Rattle.owl_text.specs.Texts.{claim_text}

-- what a word of the kind is in OWL
abbrev pub entity_kind : Kind → List ℕ
entity_kind Kind.Noun = codes "Class"
entity_kind Kind.Name = codes "NamedIndividual"
entity_kind Kind.Of = codes "ObjectProperty"
entity_kind Kind.Verb = codes "ObjectProperty"
entity_kind Kind.Adjective = codes "ObjectProperty"

-- the form that names the word
abbrev pub canonical_text : Word → List ℕ
canonical_text word = unwrap_or (slice_get word.forms.texts (canonical_place word.forms.kind)) []

-- a word as an entity, and its declaration
abbrev pub entity : Word → List ℕ
entity word = entity_kind word.forms.kind ++ (codes "(:" ++ (canonical_text word ++ codes ")"))

abbrev pub declaration : Word → List ℕ
declaration word = codes "Declaration(" ++ (entity word ++ codes ")")

-- the lines of the file: two that begin it, the words in order of number, the axioms in order, and one that ends it
abbrev pub file_lines : Listed → List Claim → List (List ℕ)
file_lines words claims =
    codes "Prefix(:=<urn:acewiki:>)" ∷ codes "Ontology(<urn:acewiki>" ∷ map declaration words.live
    ++ map (claim_text (canonical_form_of words.live)) claims ++ codes ")" ∷ []

-- lines, each with a newline
abbrev pub text_of : List (List ℕ) → List ℕ
text_of lines = flat_map (λ line. line ++ codes "\n") lines

-- the file
abbrev pub file_text : Listed → List Claim → List ℕ
file_text words claims = text_of (file_lines words claims)

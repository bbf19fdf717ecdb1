-- The words that are made of an ontology's entities, and what entities are called in axioms.
use Rattle.std.specs.Prelude.{◌≡◌, ℕ, ◌-◌, ◌==◌, not, ◌&&◌, Bool, false, if◌then◌else◌, List, [], ◌∷◌, ◌++◌, map, take, drop, slice_get, Option, codes}
use Rattle.std.specs.List.{flat_map}
use Rattle.std.specs.Option.{option_or}
use Rattle.std.specs.Str.Lossy.{utf8_lossy}
use Rattle.wiki_base.specs.declared.numbers.WordId.{WordId}
use Rattle.codeco_terms.specs.GrammarParts.{GrammarParts}
use Rattle.lexicon.specs.declared.kinds.Kind.{Kind}
use Rattle.lexicon.specs.declared.words.Word.{Word}
use Rattle.lexicon.specs.declared.words.TheConstants.{MOST_WORDS}
use Rattle.lexicon.specs.Words.{Listed, canonical_form_of}
use Rattle.logic_terms.specs.Concept.{Claim}
use Rattle.owl_reader.specs.declared.kinds.EntityKind.{EntityKind}
use Rattle.owl_reader.specs.declared.kinds.Entity.{Entity}
use Rattle.owl_text.specs.Texts.{claim_text}
use Rattle.owl_words.specs.Chosen.{AddsWord}
use Rattle.wiki_talk.specs.declared.requests.Request.TheVariants as requests
use Rattle.wiki_talk.specs.declared.requests.WikiRequest.TheVariants as of_wiki
use Rattle.wire_json.specs.Requests.{request_line}

-- a class is a noun, a property a verb, an individual a name
abbrev pub word_kind : EntityKind → Kind
word_kind EntityKind.Class = Kind.Noun
word_kind EntityKind.Property = Kind.Verb
word_kind EntityKind.Individual = Kind.Name

-- a word was added for each of these entities, one after another
abbrev pub AddsWords : Listed → List Entity → Listed → Type 0
AddsWords old [] new = new ≡ old
AddsWords old (e ∷ es) new = (next : Listed) × AddsWord old (word_kind e.kind) e.iri next × AddsWords next es new

-- no words beside those of a grammar
abbrev pub no_words : GrammarParts → Listed
no_words g = record { live = []; terminals = g.terminals; last = 0 }

-- the words of entities, so that the word of an entity has its number: of those behind the first `MOST_WORDS` there is none
abbrev pub AreWordsOf : GrammarParts → List Entity → Listed → Type 0
AreWordsOf g entities words = AddsWords (no_words g) (take MOST_WORDS entities) words

-- the lines that ask for words, each with all its forms
abbrev pub word_line : Word → List ℕ
word_line word = request_line (requests.OnWiki (of_wiki.Word word.forms.kind word.forms.texts))

abbrev pub word_lines : Listed → List ℕ
word_lines words = flat_map word_line words.live

-- an IRI between < and >
abbrev pub enclosed : Entity → List ℕ
enclosed e = codes "<" ++ (utf8_lossy e.iri ++ codes ">")

-- the entities without a word, by their IRIs
abbrev pub wordless : List Entity → List (List ℕ)
wordless entities = map enclosed (drop MOST_WORDS entities)

-- what an entity is called: by the form that names its word, or where it has no word by its IRI
abbrev pub called : Listed → List (List ℕ) → WordId → Option (List ℕ)
called words iris id = option_or (canonical_form_of words.live id) (slice_get iris (id.0 - 1 - MOST_WORDS))

-- the text begins with <
abbrev pub begins_with_less : List ℕ → Bool
begins_with_less [] = false
begins_with_less (b ∷ bs) = b == 60

-- whether the text behind a byte is between < and >
abbrev pub is_inside : Bool → ℕ → Bool
is_inside inside b = if inside then not (b == 62) else b == 60

-- a text in which no colon stands before what is between < and >. inside says whether these bytes begin there.
abbrev pub bare : Bool → List ℕ → List ℕ
bare inside [] = []
bare inside (b ∷ bs) =
    (if not inside && (b == 58 && begins_with_less bs) then [] else b ∷ []) ++ bare (is_inside inside b) bs

-- the text of an axiom in functional-style syntax, with what its entities are called
abbrev pub axiom_text : Listed → List (List ℕ) → Claim → List ℕ
axiom_text words iris claim = bare false (claim_text (called words iris) claim)

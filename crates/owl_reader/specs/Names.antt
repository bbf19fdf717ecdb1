-- Names: their prefixes, and the numbers of the entities that they name.
use Rattle.std.specs.Prelude.{ℕ, ◌+◌, Bool, true, false, ◌&&◌, ◌==◌, if◌then◌else◌, List, [], ◌∷◌, ◌++◌, Option, Some, None, codes}
use Rattle.std.specs.List.{list_any}
use Rattle.wiki_base.specs.declared.numbers.WordId.{WordId}
use Rattle.owl_reader.specs.declared.kinds.Entity.{Entity}
use Rattle.owl_reader.specs.declared.kinds.EntityKind.{EntityKind}
use Rattle.owl_reader.specs.declared.kinds.EntityKind.TheVariants as kind
use Rattle.owl_reader.specs.Grammar.{same_bytes}

-- how many bytes stand before the first colon; n come before these
abbrev pub colon_at : ℕ → List ℕ → Option ℕ
colon_at n [] = None
colon_at n (b ∷ bs) = if b == 58 then Some n else colon_at (n + 1) bs

-- prefixes that are declared, each with its IRI
abbrev pub Declared : Type 0
Declared = List (List ℕ × List ℕ)

-- a later declaration replaces the earlier one
abbrev pub declare : Declared → List ℕ → List ℕ → Declared
declare [] prefix iri = (prefix, iri) ∷ []
declare (d ∷ ds) prefix iri = if same_bytes prefix d.0 then (d.0, iri) ∷ ds else d ∷ declare ds prefix iri

abbrev pub iri_of : Declared → List ℕ → Option (List ℕ)
iri_of [] prefix = None
iri_of (d ∷ ds) prefix = if same_bytes prefix d.0 then Some d.1 else iri_of ds prefix

-- what is declared from the start
unfoldable pub first_prefixes : Declared
first_prefixes =
    (codes "owl", codes "http://www.w3.org/2002/07/owl#")
    ∷ (codes "rdf", codes "http://www.w3.org/1999/02/22-rdf-syntax-ns#")
    ∷ (codes "rdfs", codes "http://www.w3.org/2000/01/rdf-schema#")
    ∷ (codes "xsd", codes "http://www.w3.org/2001/XMLSchema#") ∷ []

-- the names with a meaning of their own, by their full IRIs
unfoldable pub is_thing : List ℕ → Bool
is_thing iri = same_bytes iri (codes "http://www.w3.org/2002/07/owl#Thing")

unfoldable pub is_nothing : List ℕ → Bool
is_nothing iri = same_bytes iri (codes "http://www.w3.org/2002/07/owl#Nothing")

unfoldable pub is_top_property : List ℕ → Bool
is_top_property iri = same_bytes iri (codes "http://www.w3.org/2002/07/owl#topObjectProperty")

unfoldable pub is_bottom_property : List ℕ → Bool
is_bottom_property iri = same_bytes iri (codes "http://www.w3.org/2002/07/owl#bottomObjectProperty")

abbrev pub same_kind : EntityKind → EntityKind → Bool
same_kind kind.Class kind.Class = true
same_kind kind.Property kind.Property = true
same_kind kind.Individual kind.Individual = true
same_kind _ _ = false

-- one IRI may be of several kinds
abbrev pub same_entity : Entity → Entity → Bool
same_entity e f = same_kind e.kind f.kind && same_bytes e.iri f.iri

-- a new entity is the last
abbrev pub entered : List Entity → Entity → List Entity
entered es e = if list_any (same_entity e) es then es else es ++ e ∷ []

-- how many entities stand before the first that is this one
abbrev pub place_of : List Entity → Entity → ℕ
place_of [] e = 0
place_of (f ∷ fs) e = if same_entity e f then 0 else 1 + place_of fs e

-- entities are numbered from 1 in the order in which they come
abbrev pub word_of : List Entity → Entity → WordId
word_of es e = record { 0 = place_of es e + 1 }

-- The grammar of whole files: what an ontology's file is made of, how it is spelled in tokens, and what it says.
-- After OWL 2, Structural Specification, sections 3.7 and 5 to 9, in the profile of docs/OWL.md.
use Rattle.std.specs.Prelude.{◌≡◌, ℕ, ◌+◌, ◌-◌, ◌≤◌, Bool, true, false, not, ◌&&◌, ◌||◌, ◌==◌, nat_lt, if◌then◌else◌, List, [], ◌∷◌, ◌++◌, map, length, Option, Some, None, unwrap_or, codes}
use Rattle.std.specs.List.{list_any, flat_map, AllByRecursion}
use Rattle.wiki_base.specs.declared.numbers.WordId.{WordId}
use Rattle.logic_terms.specs.declared.expressions.Role.{Role}
use Rattle.logic_terms.specs.Same.{inverse}
use Rattle.logic_terms.specs.Concept.{Concept, Everything, Atomic, ComplementOf, Claim}
use Rattle.owl_tokens.specs.declared.tokens.TokenKind.{TokenKind}
use Rattle.owl_tokens.specs.declared.tokens.TokenKind.TheVariants as token
use Rattle.owl_tokens.specs.Tokens.{Token, Whole, IsCut}
use Rattle.owl_reader.specs.declared.kinds.Construct.{Construct}
use Rattle.owl_reader.specs.declared.kinds.Sort.{Sort}
use Rattle.owl_reader.specs.declared.kinds.Sort.TheVariants as sort
use Rattle.owl_reader.specs.declared.kinds.Makes.{Makes}
use Rattle.owl_reader.specs.declared.kinds.Makes.TheVariants as makes
use Rattle.owl_reader.specs.declared.kinds.EntityKind.{EntityKind}
use Rattle.owl_reader.specs.declared.kinds.EntityKind.TheVariants as kind
use Rattle.owl_reader.specs.declared.kinds.Entity.{Entity}
use Rattle.owl_reader.specs.Grammar.{same_bytes, keyword, item_constructs, class_constructs, property_constructs, declared_constructs, construct_among, sorts, repeats, makes_of, is_annotation}
use Rattle.owl_reader.specs.Names.{Declared, declare, iri_of, first_prefixes, is_thing, is_nothing, is_top_property, is_bottom_property, entered, word_of}
use Rattle.owl_reader.specs.Claims.{claims_by, class_by, first_role}

-- a token, apart from its place
pub record Piece : Type 0 where
  pub kind : TokenKind
  pub text : List ℕ

abbrev pub word : List ℕ → Piece
word text = record { kind = token.Word; text = text }

abbrev pub iri_piece : List ℕ → Piece
iri_piece text = record { kind = token.Iri; text = text }

abbrev pub sign : TokenKind → Piece
sign kind = record { kind = kind; text = [] }

-- a sign has no text of its own
abbrev pub piece : TokenKind → List ℕ → Piece
piece token.OpenParen text = sign token.OpenParen
piece token.CloseParen text = sign token.CloseParen
piece token.Equals text = sign token.Equals
piece kind text = record { kind = kind; text = text }

abbrev pub piece_of : Token → Piece
piece_of t = piece t.kind t.text

-- a name: its prefix, and what stands behind its colon
pub record Name : Type 0 where
  pub prefix : List ℕ
  pub local : List ℕ

mutual
  -- a class, a property, an individual, or what is declared: a name, or a construct with its parts
  pub data Tree : Type 0 where
    Named : Name → Tree
    Built : Construct → Trees → Tree

  pub data Trees : Type 0 where
    no_tree : Trees
    also_tree : Tree → Trees → Trees

-- an item of an ontology: an annotation, which is a keyword and what stands between its parentheses;
-- or a declaration or an axiom, which is a construct with annotations in front and with its parts
pub data Item : Type 0 where
  Note : List ℕ → List Piece → Item
  Statement : Construct → List (List Piece) → Trees → Item

-- a line that declares a prefix
pub record Line : Type 0 where
  pub prefix : List ℕ
  pub iri : List ℕ

-- a file: lines of prefixes, the ontology's IRIs, and its items
pub record File : Type 0 where
  pub lines : List Line
  pub iris : List (List ℕ)
  pub items : List Item

-- How a file is spelled

-- a keyword, and this between parentheses
abbrev pub between : List ℕ → List Piece → List Piece
between before inside = word before ∷ sign token.OpenParen ∷ inside ++ sign token.CloseParen ∷ []

abbrev pub name_text : Name → List ℕ
name_text n = n.prefix ++ 58 ∷ n.local

abbrev mutual
  pub spelled : Tree → List Piece
  spelled (Named n) = word (name_text n) ∷ []
  spelled (Built c parts) = between (keyword c) (spelled_all parts)

  pub spelled_all : Trees → List Piece
  spelled_all no_tree = []
  spelled_all (also_tree t ts) = spelled t ++ spelled_all ts

abbrev pub spelled_note : List Piece → List Piece
spelled_note inside = between (codes "Annotation") inside

abbrev pub spelled_item : Item → List Piece
spelled_item (Note before inside) = between before inside
spelled_item (Statement c notes parts) = between (keyword c) (flat_map spelled_note notes ++ spelled_all parts)

abbrev pub spelled_line : Line → List Piece
spelled_line l = between (codes "Prefix") (word (l.prefix ++ 58 ∷ []) ∷ sign token.Equals ∷ iri_piece l.iri ∷ [])

abbrev pub spelled_file : File → List Piece
spelled_file f = flat_map spelled_line f.lines ++ between (codes "Ontology") (map iri_piece f.iris ++ flat_map spelled_item f.items)

-- What may stand where

abbrev pub is_open : TokenKind → Bool
is_open token.OpenParen = true
is_open _ = false

abbrev pub is_close : TokenKind → Bool
is_close token.CloseParen = true
is_close _ = false

-- each parenthesis has its other one, where so many are open
abbrev pub are_matched : ℕ → List Piece → Bool
are_matched count [] = count == 0
are_matched count (p ∷ ps) =
    if is_open p.kind then are_matched (count + 1) ps
    else (if is_close p.kind then nat_lt 0 count && are_matched (count - 1) ps else are_matched count ps)

-- the prefix of a name: no colon stands in it, and it isn't _
abbrev pub is_prefix : List ℕ → Bool
is_prefix text = not (list_any (λ b. b == 58) text || same_bytes text (codes "_"))

-- an IRI that the profile has
abbrev pub is_in_profile : List ℕ → Bool
is_in_profile iri = not (is_top_property iri || is_bottom_property iri)

abbrev pub is_in_profile_with : Option (List ℕ) → List ℕ → Bool → Bool
is_in_profile_with None local otherwise = otherwise
is_in_profile_with (Some front) local otherwise = is_in_profile (front ++ local)

-- a name whose prefix is declared
abbrev pub is_name : Declared → Name → Bool
is_name declared n = is_prefix n.prefix && is_in_profile_with (iri_of declared n.prefix) n.local false

-- the full IRI of a name
abbrev pub full_iri : Declared → Name → List ℕ
full_iri declared n = unwrap_or (iri_of declared n.prefix) [] ++ n.local

-- whether names may stand where something of the sort is wanted
abbrev pub takes_names : Sort → Bool
takes_names sort.Item = false
takes_names sort.Declared = false
takes_names _ = true

-- which constructs may stand there
abbrev pub constructs_of : Sort → List Construct
constructs_of sort.Class = class_constructs
constructs_of sort.Property = property_constructs
constructs_of sort.Declared = declared_constructs
constructs_of _ = []

-- a construct is one of these
abbrev pub IsOneOf : List Construct → Construct → Type 0
IsOneOf constructs c = construct_among constructs (keyword c) ≡ Some c

abbrev mutual
  -- a tree may stand where something of the sort is wanted
  pub Fits : Declared → Sort → Tree → Type 0
  Fits declared wanted (Named n) = (takes_names wanted ≡ true) × (is_name declared n ≡ true)
  Fits declared wanted (Built c parts) = IsOneOf (constructs_of wanted) c × Fill declared (sorts c) (repeats c) parts

  -- trees are what is wanted, in order, and then any number of what may be repeated
  pub Fill : Declared → List Sort → Option Sort → Trees → Type 0
  Fill declared [] more no_tree = Unit {0}
  Fill declared (s ∷ ss) more no_tree = ⊥
  Fill declared (s ∷ ss) more (also_tree t ts) = Fits declared s t × Fill declared ss more ts
  Fill declared [] (Some s) (also_tree t ts) = Fits declared s t × Fill declared [] (Some s) ts
  Fill declared [] None (also_tree t ts) = ⊥

abbrev pub AreMatched : List Piece → Type 0
AreMatched inside = are_matched 0 inside ≡ true

abbrev pub IsItem : Declared → Item → Type 0
IsItem declared (Note before inside) = (is_annotation before ≡ true) × AreMatched inside
IsItem declared (Statement c notes parts) =
    IsOneOf item_constructs c × AllByRecursion AreMatched notes × Fill declared (sorts c) (repeats c) parts

-- what lines declare, beside what is declared already: of two for one prefix the later counts
abbrev pub declared_by : Declared → List Line → Declared
declared_by before [] = before
declared_by before (l ∷ ls) = declared_by (declare before l.prefix l.iri) ls

-- a prefix may be declared again, but not where its name is the top or the bottom property's by then
abbrev pub AreLines : Declared → List Line → Type 0
AreLines before [] = Unit {0}
AreLines before (l ∷ ls) =
    (is_prefix l.prefix ≡ true) × (is_in_profile_with (iri_of before l.prefix) [] true ≡ true) × AreLines (declare before l.prefix l.iri) ls

-- the prefixes that a file has
abbrev pub prefixes_of : File → Declared
prefixes_of f = declared_by first_prefixes f.lines

pub record IsFile (f : File) : Type 0 where
  pub lines : AreLines first_prefixes f.lines
  pub iris : length f.iris ≤ 2
  pub items : AllByRecursion (IsItem (prefixes_of f)) f.items

-- What a file says

abbrev pub entity : EntityKind → List ℕ → Entity
entity kind iri = record { kind = kind; iri = iri }

-- the entity that a name names where something of the sort is wanted: none is of owl:Thing and owl:Nothing, or of an annotation property
abbrev pub named_entity : Sort → List ℕ → List Entity
named_entity sort.Class iri = if is_thing iri then [] else (if is_nothing iri then [] else entity kind.Class iri ∷ [])
named_entity sort.Property iri = entity kind.Property iri ∷ []
named_entity sort.PropertyName iri = entity kind.Property iri ∷ []
named_entity sort.Individual iri = entity kind.Individual iri ∷ []
named_entity (sort.Name k) iri = entity k iri ∷ []
named_entity _ iri = []

abbrev mutual
  -- the entities that are named, from left to right
  pub mentioned : Declared → Sort → Tree → List Entity
  mentioned declared wanted (Named n) = named_entity wanted (full_iri declared n)
  mentioned declared wanted (Built c parts) = mentioned_in declared (sorts c) (repeats c) parts

  pub mentioned_in : Declared → List Sort → Option Sort → Trees → List Entity
  mentioned_in declared ss more no_tree = []
  mentioned_in declared (s ∷ ss) more (also_tree t ts) = mentioned declared s t ++ mentioned_in declared ss more ts
  mentioned_in declared [] (Some s) (also_tree t ts) = mentioned declared s t ++ mentioned_in declared [] (Some s) ts
  mentioned_in declared [] None (also_tree t ts) = []

abbrev pub mentioned_by : Declared → Item → List Entity
mentioned_by declared (Note before inside) = []
mentioned_by declared (Statement c notes parts) = mentioned_in declared (sorts c) (repeats c) parts

-- these, each once, where it first comes, behind those
abbrev pub each_once : List Entity → List Entity → List Entity
each_once those [] = those
each_once those (e ∷ es) = each_once (entered those e) es

-- a file's entities, each once, in the order in which they first come
abbrev pub entities_of : File → List Entity
entities_of f = each_once [] (flat_map (mentioned_by (prefixes_of f)) f.items)

-- the classes, properties and individuals that trees stand for, in order
pub record Parts : Type 0 where
  pub classes : List Concept
  pub roles : List Role
  pub names : List WordId

abbrev pub no_part : Parts
no_part = record { classes = []; roles = []; names = [] }

abbrev pub one_class : Concept → Parts
one_class c = record { classes = c ∷ []; roles = []; names = [] }

abbrev pub one_role : Role → Parts
one_role r = record { classes = []; roles = r ∷ []; names = [] }

abbrev pub one_name : WordId → Parts
one_name a = record { classes = []; roles = []; names = a ∷ [] }

abbrev pub joined : Parts → Parts → Parts
joined a b = record { classes = a.classes ++ b.classes; roles = a.roles ++ b.roles; names = a.names ++ b.names }

abbrev pub named_class : (Entity → WordId) → List ℕ → Concept
named_class number iri =
    if is_thing iri then Everything else (if is_nothing iri then ComplementOf Everything else Atomic (number (entity kind.Class iri)))

abbrev pub named_role : (Entity → WordId) → List ℕ → Role
named_role number iri = record { id = number (entity kind.Property iri); inverted = false }

-- what a name stands for where something of the sort is wanted
abbrev pub named_part : (Entity → WordId) → Sort → List ℕ → Parts
named_part number sort.Class iri = one_class (named_class number iri)
named_part number sort.Property iri = one_role (named_role number iri)
named_part number sort.PropertyName iri = one_role (named_role number iri)
named_part number sort.Individual iri = one_name (number (entity kind.Individual iri))
named_part number _ iri = no_part

-- what a construct with these parts stands for
abbrev pub built_part : Makes → Construct → Parts → Parts
built_part makes.Class c parts = one_class (class_by c parts.classes parts.roles parts.names)
built_part makes.Property c parts = one_role (inverse (first_role parts.roles))
built_part _ c parts = no_part

abbrev mutual
  pub part : Declared → (Entity → WordId) → Sort → Tree → Parts
  part declared number wanted (Named n) = named_part number wanted (full_iri declared n)
  part declared number wanted (Built c ts) = built_part (makes_of c) c (parts_in declared number (sorts c) (repeats c) ts)

  pub parts_in : Declared → (Entity → WordId) → List Sort → Option Sort → Trees → Parts
  parts_in declared number ss more no_tree = no_part
  parts_in declared number (s ∷ ss) more (also_tree t ts) = joined (part declared number s t) (parts_in declared number ss more ts)
  parts_in declared number [] (Some s) (also_tree t ts) = joined (part declared number s t) (parts_in declared number [] (Some s) ts)
  parts_in declared number [] None (also_tree t ts) = no_part

abbrev pub claims_with : Construct → Parts → List Claim
claims_with c parts = claims_by c parts.classes parts.roles parts.names

-- the axioms of an item
abbrev pub claims_in : Declared → (Entity → WordId) → Item → List Claim
claims_in declared number (Note before inside) = []
claims_in declared number (Statement c notes ts) = claims_with c (parts_in declared number (sorts c) (repeats c) ts)

-- a file's axioms, in order, with each entity by its number
abbrev pub claims_of_file : File → List Claim
claims_of_file f = flat_map (claims_in (prefixes_of f) (word_of (entities_of f))) f.items

-- A text as a file

-- no parenthesis is one too many, where so many are open
abbrev pub is_shallow : ℕ → ℕ → List Piece → Bool
is_shallow most count [] = true
is_shallow most count (p ∷ ps) =
    if is_open p.kind then nat_lt count most && is_shallow most (count + 1) ps
    else (if is_close p.kind then is_shallow most (count - 1) ps else is_shallow most count ps)

-- a text is a file with at most 200 parentheses open at once
pub record Spells (text : List ℕ) (f : File) : Type 0 where
  pub is_file : IsFile f
  pub tokens : List Token
  pub end : ℕ
  pub cut : IsCut text tokens (Whole end)
  pub spelled : map piece_of tokens ≡ spelled_file f
  pub shallow : is_shallow 200 0 (spelled_file f) ≡ true

-- a text is a file with these entities and axioms
abbrev pub IsOwlFile : List ℕ → List Entity → List Claim → Type 0
IsOwlFile text entities claims = (f : File) × Spells text f × (entities ≡ entities_of f) × (claims ≡ claims_of_file f)

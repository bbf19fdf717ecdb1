-- Each axiom as pieces of knowledge.
use Rattle.std.specs.Prelude.{List, [], ◌∷◌, ◌++◌, Option, Some, None}
use Rattle.std.specs.List.{flat_map}
use Rattle.std.specs.Option.{option_map_or}
use Rattle.wiki_base.specs.declared.numbers.WordId.{WordId}
use Rattle.logic_terms.specs.declared.expressions.Role.{Role}
use Rattle.logic_terms.specs.Concept.{Concept, Concepts, Everything, Atomic, ComplementOf, IntersectionOf, UnionOf, SomeValuesFrom, AllValuesFrom, HasValue, no_concept, also_concept, Claim, SubClassOf, SubPropertyOf, ClassAssertion, PropertyAssertion, NegativePropertyAssertion, SameIndividual, DifferentIndividuals, TransitiveProperty}
use Rattle.logic_terms.specs.Complement.{complement}
use Rattle.logic_terms.specs.Parts.{word_part}
use Rattle.logic_terms.specs.Same.{inverse}

-- a piece of knowledge
pub data Piece : Type 0 where
  -- two names have one element
  Equality : WordId → WordId → Piece
  -- each pair of the first role is one of the second
  RoleInclusion : Role → Role → Piece
  -- a name is in a class
  Assertion : WordId → Concept → Piece
  -- two names are a pair of a role
  Related : Role → WordId → WordId → Piece
  -- two names have different elements
  Difference : WordId → WordId → Piece
  -- a relation word is transitive
  Transitivity : WordId → Piece
  -- each element of a class word is in a class
  Unfolding : WordId → Concept → Piece
  -- each element is in a class
  General : Concept → Piece

-- the union of two classes
abbrev pub either : Concept → Concept → Concept
either c d = UnionOf (also_concept c (also_concept d no_concept))

-- the first class word among the members of an intersection
abbrev pub first_word : Concepts → Option WordId
first_word no_concept = None
first_word (also_concept c cs) = option_map_or (λ word. Some word) (word_part c) (first_word cs)

-- the members without the first class word
abbrev pub without_first_word : Concepts → Concepts
without_first_word no_concept = no_concept
without_first_word (also_concept c cs) = option_map_or (λ word. cs) (word_part c) (also_concept c (without_first_word cs))

-- the intersection of these classes, and of a single class itself
abbrev pub together : Concepts → Concept
together no_concept = Everything
together (also_concept c no_concept) = c
together (also_concept c (also_concept d cs)) = IntersectionOf (also_concept c (also_concept d cs))

-- each element is outside c or in d
abbrev pub general : Concept → Concept → Piece
general c d = General (either (complement c) d)

-- each element of the class word is outside the other members or in d
abbrev pub guarded : Concepts → Concept → WordId → Piece
guarded cs d word = Unfolding word (either (complement (together (without_first_word cs))) d)

-- an inclusion of one class in another
abbrev mutual
  pub inclusion : Concept → Concept → List Piece
  inclusion Everything d = General d ∷ []
  inclusion (Atomic word) d = Unfolding word d ∷ []
  inclusion (ComplementOf c) d = general (ComplementOf c) d ∷ []
  inclusion (IntersectionOf cs) d = option_map_or (guarded cs d) (first_word cs) (general (IntersectionOf cs) d) ∷ []
  inclusion (UnionOf cs) d = inclusions cs d
  inclusion (SomeValuesFrom role c) d = inclusion c (AllValuesFrom (inverse role) d)
  inclusion (AllValuesFrom role c) d = general (AllValuesFrom role c) d ∷ []
  inclusion (HasValue role name) d = Assertion name (AllValuesFrom (inverse role) d) ∷ []

  -- an inclusion of each of these classes
  pub inclusions : Concepts → Concept → List Piece
  inclusions no_concept d = []
  inclusions (also_concept c cs) d = inclusion c d ++ inclusions cs d

-- an axiom
abbrev pub pieces_of : Claim → List Piece
pieces_of (SubClassOf c d) = inclusion c d
pieces_of (SubPropertyOf r s) = RoleInclusion r s ∷ []
pieces_of (ClassAssertion c name) = Assertion name c ∷ []
pieces_of (PropertyAssertion r from to) = Related r from to ∷ []
pieces_of (NegativePropertyAssertion r from to) = Assertion from (ComplementOf (HasValue r to)) ∷ []
pieces_of (SameIndividual one other) = Equality one other ∷ []
pieces_of (DifferentIndividuals one other) = Difference one other ∷ []
pieces_of (TransitiveProperty word) = Transitivity word ∷ []

-- axioms, in their order
abbrev pub all_pieces : List Claim → List Piece
all_pieces claims = flat_map pieces_of claims

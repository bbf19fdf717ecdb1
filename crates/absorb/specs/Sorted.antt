-- Pieces of knowledge, sorted by their kinds.
use Rattle.std.specs.Prelude.{List, [], ◌∷◌, ◌++◌, fold}
use Rattle.wiki_base.specs.declared.numbers.WordId.{WordId}
use Rattle.logic_terms.specs.declared.expressions.Role.{Role}
use Rattle.logic_terms.specs.Concept.{Concept, Claim}
use Rattle.absorb.specs.Pieces.{Piece, Equality, RoleInclusion, Assertion, Related, Difference, Transitivity, Unfolding, General, all_pieces}

-- the pieces of each kind, in order
pub record Sorted : Type 0 where
  pub equalities : List (WordId × WordId)
  pub role_inclusions : List (Role × Role)
  pub assertions : List (WordId × Concept)
  pub edges : List (Role × WordId × WordId)
  pub differences : List (WordId × WordId)
  pub transitive : List WordId
  pub unfoldings : List (WordId × Concept)
  pub general : List Concept

abbrev pub no_pieces : Sorted
no_pieces = record { equalities = []; role_inclusions = []; assertions = []; edges = []; differences = []; transitive = []; unfoldings = []; general = [] }

-- one more piece, at the end of those of its kind
abbrev pub with_piece : Sorted → Piece → Sorted
with_piece s (Equality one other) = record s { equalities = s.equalities ++ (one, other) ∷ [] }
with_piece s (RoleInclusion below above) = record s { role_inclusions = s.role_inclusions ++ (below, above) ∷ [] }
with_piece s (Assertion name c) = record s { assertions = s.assertions ++ (name, c) ∷ [] }
with_piece s (Related role from to) = record s { edges = s.edges ++ (role, from, to) ∷ [] }
with_piece s (Difference one other) = record s { differences = s.differences ++ (one, other) ∷ [] }
with_piece s (Transitivity word) = record s { transitive = s.transitive ++ word ∷ [] }
with_piece s (Unfolding word c) = record s { unfoldings = s.unfoldings ++ (word, c) ∷ [] }
with_piece s (General c) = record s { general = s.general ++ c ∷ [] }

-- more pieces
abbrev pub with_pieces : Sorted → List Piece → Sorted
with_pieces s pieces = fold with_piece s pieces

-- the pieces of axioms
abbrev pub sorted : List Claim → Sorted
sorted claims = with_pieces no_pieces (all_pieces claims)

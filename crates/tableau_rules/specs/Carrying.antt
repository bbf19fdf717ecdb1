-- What a transitive role carries along: a class that speaks of all successors by a role above it.
use Rattle.std.specs.Prelude.{ℕ, true, false, List, [], ◌∷◌, map, filter, Option, Some, None}
use Rattle.std.specs.List.{flat_map}
use Rattle.wiki_base.specs.declared.numbers.WordId.{WordId}
use Rattle.logic_terms.specs.declared.expressions.Role.{Role}
use Rattle.logic_terms.specs.Concept.{Concept, ComplementOf, AllValuesFrom, HasValue}
use Rattle.logic_terms.specs.Theory.{Theory, is_below}
use Rattle.tableau_rules.specs.Graph.{Graph}
use Rattle.tableau_rules.specs.Neighbours.{is_neighbour}

-- the role of a class that speaks of all successors: all are in a class, or none is a name's element
abbrev pub role_of_all : Concept → Option Role
role_of_all (AllValuesFrom role c) = Some role
role_of_all (ComplementOf (HasValue role name)) = Some role
role_of_all _ = None

-- the same of the successors by another role
abbrev pub along : Role → Concept → Concept
along role (AllValuesFrom own c) = AllValuesFrom role c
along role (HasValue own name) = HasValue role name
along role (ComplementOf c) = ComplementOf (along role c)
along role c = c

-- the roles of a word, the plain one first
abbrev pub both_ways : WordId → List Role
both_ways word = record { id = word; inverted = false } ∷ record { id = word; inverted = true } ∷ []

-- the transitive roles that are the role or below it, in the order of their words
abbrev pub carriers : Theory → Role → List Role
carriers k role = filter (λ t. is_below k t role) (flat_map both_ways k.transitive)

-- what is carried from x to y of a class that speaks of all successors by a role
abbrev pub carried : Theory → Graph → Role → Concept → ℕ → ℕ → List Concept
carried k g role c x y = map (λ t. along t c) (filter (λ t. is_neighbour k g t x y) (carriers k role))

-- How many rule applications always end the systematic search.
use Rattle.std.specs.Prelude.{ℕ, ◌+◌, ◌*◌, ◌^◌, List, [], ◌∷◌, ◌++◌, map, length}
use Rattle.logic_terms.specs.Concept.{Concept, Concepts, Everything, Atomic, ComplementOf, IntersectionOf, UnionOf, SomeValuesFrom, AllValuesFrom, HasValue, no_concept, also_concept}
use Rattle.std.specs.List.{flat_map}
use Rattle.logic_terms.specs.Theory.{Theory}
use Rattle.tableau_rules.specs.Carrying.{along, both_ways}
use Rattle.tableau_rules.specs.Branches.{start}

-- a class and its parts, one for each occurrence
abbrev mutual
  pub occurrences : Concept → List Concept
  occurrences Everything = Everything ∷ []
  occurrences (Atomic word) = Atomic word ∷ []
  occurrences (ComplementOf c) = ComplementOf c ∷ occurrences c
  occurrences (IntersectionOf cs) = IntersectionOf cs ∷ member_occurrences cs
  occurrences (UnionOf cs) = UnionOf cs ∷ member_occurrences cs
  occurrences (SomeValuesFrom role c) = SomeValuesFrom role c ∷ occurrences c
  occurrences (AllValuesFrom role c) = AllValuesFrom role c ∷ occurrences c
  occurrences (HasValue role name) = HasValue role name ∷ []

  pub member_occurrences : Concepts → List Concept
  member_occurrences no_concept = []
  member_occurrences (also_concept c cs) = occurrences c ++ member_occurrences cs

-- the occurrences in several classes
abbrev pub all_occurrences : List Concept → List Concept
all_occurrences [] = []
all_occurrences (c ∷ cs) = occurrences c ++ all_occurrences cs

-- the classes of the assertions, the unfoldings and the general classes
abbrev pub given_classes : Theory → List Concept
given_classes k = map (λ e. e.1) k.assertions ++ (map (λ e. e.1) k.unfoldings ++ k.general)

-- the class occurrences of the knowledge, parts of classes included
abbrev pub own_occurrences : Theory → List Concept
own_occurrences k = all_occurrences (given_classes k)

-- these, and each of them along each transitive role: labels have no other classes
abbrev pub class_occurrences : Theory → List Concept
class_occurrences k = own_occurrences k ++ flat_map (λ t. map (along t) (own_occurrences k)) (flat_map both_ways k.transitive)

-- how many there are: c * (1 + 2 * t), where c is the number of the first and t that of the transitive words
abbrev pub class_count : Theory → ℕ
class_count k = length (class_occurrences k)

-- so many nodes no branch has more of: each first node has a tree of at most 2^m + 1 levels below it, where m is the
-- number of class occurrences, and a node makes at most m others
abbrev pub most_nodes : Theory → ℕ
most_nodes k = length (start k).nodes * (class_count k + 1) ^ (2 ^ class_count k + 1)

-- so many rule applications end each search: no branch takes more than 2 * m + 1 steps for each node, and no step has more
-- than m choices
abbrev pub enough : Theory → ℕ
enough k = (class_count k + 1) ^ (most_nodes k * (2 * class_count k + 1))

-- so many end a search over knowledge without unions: it has one way, and each of its steps adds a class, an edge or a node
abbrev pub enough_without_choices : Theory → ℕ
enough_without_choices k = most_nodes k * (2 * class_count k + 1)

-- and so many where there are no existential restrictions either, since no node is ever made
abbrev pub enough_without_new_nodes : Theory → ℕ
enough_without_new_nodes k = length (start k).nodes * (2 * class_count k + 1)

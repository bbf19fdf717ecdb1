-- What the conditions of a structure say of its members, as a graph, and the class that a tree of members rolls up to.
-- The members are the root, which is number 0, and the structure's referents; that of referent q has number q + 1.
use Rattle.std.specs.Prelude.{ℕ, zero, suc, ◌==◌, ◌+◌, ◌++◌, ◌&&◌, ◌||◌, Bool, true, false, not, List, [], ◌∷◌, length, Option, Some, None, Result, Ok, Err, if◌then◌else◌}
use Rattle.std.specs.List.{list_any, list_all, filter_map}
use Rattle.wiki_base.specs.declared.numbers.WordId.{WordId}
use Rattle.logic_terms.specs.declared.expressions.Role.{Role}
use Rattle.logic_terms.specs.declared.cause.Cause.{Cause}
use Rattle.logic_terms.specs.declared.cause.Cause.TheVariants.{Cycle, NoRoot}
use Rattle.logic_terms.specs.Concept.{Concept, Everything, IntersectionOf, SomeValuesFrom, concepts_from}

-- one condition gives a class to a member, or an edge from one member to another
pub data Part : Type 0 where
  At : ℕ → Concept → Part
  Edge : WordId → ℕ → ℕ → Part

-- whether edges lead from one member to another, whatever their direction: without the first edge, or along it, or
-- against it
abbrev pub connected : List Part → ℕ → ℕ → Bool
connected [] n m = n == m
connected (At k c ∷ ps) n m = connected ps n m
connected (Edge word a b ∷ ps) n m = connected ps n m || ((connected ps n a && connected ps b m) || (connected ps n b && connected ps a m))

-- whether the edges, taken without direction, contain a cycle: some edge joins what edges after it connect
abbrev pub has_cycle : List Part → Bool
has_cycle [] = false
has_cycle (At k c ∷ ps) = has_cycle ps
has_cycle (Edge word a b ∷ ps) = connected ps a b || has_cycle ps

-- whether each of a structure's referents is reached from the root
abbrev pub each_reached : List ℕ → List Part → Bool
each_reached rs ps = list_all (λ q. connected ps 0 (q + 1)) rs

abbrev pub straight : WordId → Role
straight word = record { id = word; inverted = false }

abbrev pub inverse : WordId → Role
inverse word = record { id = word; inverted = true }

-- the intersection of classes: of none it is everything, of one that class
abbrev pub intersection : List Concept → Concept
intersection [] = Everything
intersection (c ∷ []) = c
intersection (c ∷ d ∷ cs) = IntersectionOf (concepts_from (c ∷ d ∷ cs))

-- whether an edge from one end to the other leads from a member to a child: the other end is not on the way from the
-- root to this member
abbrev pub leads : List ℕ → ℕ → ℕ → ℕ → Bool
leads way n from to = (from == n) && not (list_any (λ k. k == to) way)

-- what a part gives at a member: its class, and for an edge to a child some value in the child's class
abbrev pub part_at : (ℕ → Concept) → List ℕ → ℕ → Part → Option Concept
part_at class_of way n (At k c) = if k == n then Some c else None
part_at class_of way n (Edge word a b) =
    if leads way n a b then Some (SomeValuesFrom (straight word) (class_of b))
    else if leads way n b a then Some (SomeValuesFrom (inverse word) (class_of a)) else None

-- the class at a member, with those on the way from the root above it: the intersection, in the order of the parts, of
-- what each gives there. No way is longer than there are parts.
abbrev pub class_at : ℕ → List Part → List ℕ → ℕ → Concept
class_at zero ps above n = Everything
class_at (suc depth) ps above n =
    let way : List ℕ = above ++ n ∷ [] in
    intersection (filter_map (part_at (class_at depth ps way) way n) ps)

-- why parts make no tree of the root and these referents: first a cycle, then a referent that is not reached
abbrev pub tree_fault : List ℕ → List Part → Option Cause
tree_fault rs ps = if has_cycle ps then Some Cycle else if each_reached rs ps then None else Some NoRoot

-- the class at the root of the tree that the parts make
abbrev pub class_of_tree : List ℕ → List Part → Result Concept Cause
class_of_tree rs ps = elim (tree_fault rs ps) [ Some cause ↦ Err cause | None ↦ Ok (class_at (length ps) ps [] 0) ]

use Rattle.std.proofs.Common.{◌≡◌, ℕ, ◌+◌, ◌*◌, [], ◌∷◌, ◌++◌, take, drop, map}
use Rattle.derivations.specs.Enumeration as enumeration
use Rattle.derivations.specs.Paths.{path_of, outcome_of}
use Rattle.derivations.proofs.listing.push_children.Given as goal

abbrev pub invariant-loop-child : goal.invariant-loop-child
invariant-loop-child l =
    map path_of l.out ≡ map path_of l.initial.out ++ map (enumeration.joined (path_of l.path)) (map outcome_of (take l.child-index l.children))

use Rattle.std.proofs.Common.{◌≡◌, ◌++◌, map, take}
use Rattle.derivations.specs.Enumeration as enumeration
use Rattle.chart_trees.specs.Paths.{path_of, outcome_at}
use Rattle.chart_trees.proofs.paths.push_joined.Given as goal

abbrev pub invariant-loop-child : goal.invariant-loop-child
invariant-loop-child l =
    map path_of l.out ≡ map path_of l.initial.out ++ map (enumeration.joined (path_of l.path)) (map (outcome_at l.path.list) (take l.child-index l.children))

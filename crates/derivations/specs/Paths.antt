-- Paths and outcomes as the program holds them. Only private calls speak of it.
use Rattle.derivation_trees.specs.Trees.{node_of, nodes_of}
use Rattle.derivation_trees.specs.Derives.{At}
use Rattle.derivations.specs.declared.paths.Path.{Path}
use Rattle.derivations.specs.declared.paths.Outcome.{Outcome}
use Rattle.derivations.specs.declared.sought.Sought.{Sought}
use Rattle.derivations.specs.Enumeration as enumeration

-- the path that the program holds
abbrev pub path_of : Path → enumeration.Path
path_of path = record {
  found = path.found;
  own = path.own;
  children = nodes_of path.children;
  at = record { place = path.place; list = path.list };
}

-- the outcome that the program holds
abbrev pub outcome_of : Outcome → enumeration.Outcome
outcome_of outcome = record { tree = node_of outcome.tree; at = record { place = outcome.place; list = outcome.list } }

-- where the phrases that are sought begin
abbrev pub start_of : Sought → At
start_of sought = record { place = sought.place; list = sought.list.now }

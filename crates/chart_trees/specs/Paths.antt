-- Paths and outcomes as the program holds them. Only private calls speak of it.
use Rattle.std.specs.Prelude.{List, ◌++◌}
use Rattle.scopes.specs.declared.entries.Entry.{Entry}
use Rattle.derivation_trees.specs.Trees.{node_of, nodes_of}
use Rattle.derivation_trees.specs.Derives.{At}
use Rattle.derivations.specs.Enumeration as enumeration
use Rattle.chart_trees.specs.declared.paths.Path.{Path}
use Rattle.chart_trees.specs.declared.outcomes.Outcome.{Outcome}
use Rattle.chart_trees.specs.declared.scene.Sought.{Sought}

-- the path that the program holds
abbrev pub path_of : Path → enumeration.Path
path_of path = record {
  found = path.found;
  own = path.own;
  children = nodes_of path.children;
  at = record { place = path.place; list = path.list };
}

-- where the tree of an outcome leads from a list
abbrev pub end_from : List Entry → Outcome → At
end_from list o = record { place = o.place; list = list ++ o.tail }

-- the tree of an outcome with where it leads from a list
abbrev pub outcome_at : List Entry → Outcome → enumeration.Outcome
outcome_at list o = record { tree = node_of o.tree; at = end_from list o }

-- where the phrases that are sought begin
abbrev pub start_of : Sought → At
start_of sought = record { place = sought.place; list = sought.list.now }

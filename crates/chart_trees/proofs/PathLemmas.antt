-- Paths, as the program holds them.
use Rattle.std.proofs.Common.{◌≡◌, List, [], ◌∷◌, ◌++◌, map}
use Rattle.std.proofs.lemmas.List.{map-append}
use Rattle.chart_trees.specs.declared.paths.Path.{Path}
use Rattle.chart_trees.specs.Paths.{path_of}

pub paths_push : (xs : List Path) (x : Path) → map path_of (xs ++ x ∷ []) ≡ map path_of xs ++ path_of x ∷ []
paths_push xs x = map-append path_of xs (x ∷ [])

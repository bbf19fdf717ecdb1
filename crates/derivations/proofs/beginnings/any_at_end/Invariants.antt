use Rattle.std.proofs.Common.{◌≡◌, drop, map}
use Rattle.std.specs.List.{list_any}
use Rattle.derivations.specs.Beginnings.{is_at_end}
use Rattle.derivations.specs.Paths.{path_of}
use Rattle.derivations.proofs.beginnings.any_at_end.Given as goal

abbrev pub invariant-loop-path : goal.invariant-loop-path
invariant-loop-path l =
    list_any (is_at_end l.setting) (map path_of (drop l.path-index l.paths)) ≡ list_any (is_at_end l.setting) (map path_of l.paths)

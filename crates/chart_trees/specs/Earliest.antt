-- Paths that stand for others. Only private calls speak of it.
use Rattle.std.specs.Prelude.{◌≡◌, List, slice_get, Some, ◌⊎◌}
use Rattle.derivations.specs.Among.{Among}
use Rattle.derivations.specs.Enumeration as enumeration
use Rattle.chart_trees.specs.declared.outcomes.Seat.{Seat}
use Rattle.chart_trees.specs.declared.outcomes.Seat.TheVariants as seat
use Rattle.chart_trees.specs.declared.paths.Path.{Path}
use Rattle.chart_trees.specs.Paths.{path_of}
use Rattle.chart_trees.specs.Ways.{IsNoLater}

-- one of the paths is no later
abbrev pub Stands : List Path → enumeration.Path → Type 0
Stands paths q = (p : Path) × Among paths p × IsNoLater (path_of p) q

-- where a path belongs among others
abbrev pub IsSeat : List Path → Path → Seat → Type 0
IsSeat paths new seat.Taken = Stands paths (path_of new)
IsSeat paths new (seat.At place) = (old : Path) × (slice_get paths place ≡ Some old) × IsNoLater (path_of new) (path_of old)
IsSeat paths new seat.Free = Unit {0}

-- the later list has paths of the first and this one, and one that is no later than each of them
pub record IsPut (x : Path) (before after : List Path) : Type 0 where
  pub sound : (p : Path) → Among after p → Among before p ⊎ (p ≡ x)
  pub kept : (p : Path) → Among before p → Stands after (path_of p)
  pub new : Stands after (path_of x)

-- some of the paths are left, and for each path one that is no later
pub record StandFor (paths left : List Path) : Type 0 where
  pub sound : (p : Path) → Among left p → Among paths p
  pub least : (p : Path) → Among paths p → Stands left (path_of p)

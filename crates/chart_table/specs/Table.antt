-- The table of ends.
use Rattle.std.specs.Prelude.{◌≡◌, ℕ, List, [], slice_get, Some, All}
use Rattle.codeco_terms.specs.declared.values.Value.{Value}
use Rattle.codeco_checked.specs.declared.numbers.TheConstants.{FIRST_PLAIN}
use Rattle.codeco_checked.specs.declared.numbers.TheConstants.{NUMBERS}
use Rattle.scopes.specs.declared.entries.Entry.{Entry}
use Rattle.derivation_trees.specs.Settings.{Setting}
use Rattle.derivation_trees.specs.Derives.{At}
use Rattle.chart_table.specs.declared.table.Row.{Row}
use Rattle.chart_table.specs.Ends.{IsEnds}
use Rattle.chart_table.specs.Aims.{Aims}
use Rattle.chart_table.specs.Cuts.{AreCuts}

-- the place and the list of a row
abbrev pub row_at : Row → At
row_at row = record { place = row.place; list = row.list }

-- the row has the ends of its category, and what is cut off
pub record IsRow (s : Setting) (aim : Aims) (row : Row) : Type 0 where
  pub ends : IsEnds s row.name row.known (row_at row) row.ends
  pub cuts : AreCuts s aim row.name row.known (row_at row) row.cuts

-- nothing is asked for
abbrev pub no_asks : Aims
no_asks = record { halt = NUMBERS; asks = [] }

-- each row of the table has the ends of its category, and what is cut off
pub record AreRows (s : Setting) (aim : Aims) (rows : List Row) : Type 0 where
  pub all : All (IsRow s aim) rows

-- the row with this number has the ends of the category from the place and the list, and what is cut off
pub record HasRow (s : Setting) (aim : Aims) (rows : List Row) (number name : ℕ) (known : List (ℕ × Value)) (at : At) : Type 0 where
  pub row : Row
  pub is : slice_get rows number ≡ Some row
  pub ends : IsEnds s name known at row.ends
  pub cuts : AreCuts s aim name known at row.cuts

-- the row with this number is that of the category, the known values, the place and the list
pub record IsFound (rows : List Row) (number name : ℕ) (known : List (ℕ × Value)) (place : ℕ) (list : List Entry) : Type 0 where
  pub row : Row
  pub is : slice_get rows number ≡ Some row
  pub name_is : row.name ≡ name
  pub known_is : row.known ≡ known
  pub place_is : row.place ≡ place
  pub list_is : row.list ≡ list

-- the row is that of the category of sentences, from place 0 and the empty list
pub record IsTextRow (s : Setting) (aim : Aims) (row : Row) : Type 0 where
  pub ends : IsEnds s FIRST_PLAIN [] (record { place = 0; list = [] }) row.ends
  pub cuts : AreCuts s aim FIRST_PLAIN [] (record { place = 0; list = [] }) row.cuts

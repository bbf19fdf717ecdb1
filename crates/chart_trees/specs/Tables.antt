-- The table of least trees. Only private calls speak of it.
use Rattle.std.specs.Prelude.{◌≡◌, ℕ, List, slice_get, Some, All}
use Rattle.scopes.specs.declared.entries.Entry.{Entry}
use Rattle.scopes.specs.declared.agreement.Test.{Test}
use Rattle.derivation_trees.specs.Settings.{Setting}
use Rattle.derivation_trees.specs.Derives.{At}
use Rattle.chart_table.specs.Table.{AreRows, no_asks}
use Rattle.chart_trees.specs.declared.table.Best.{Best}
use Rattle.chart_trees.specs.declared.table.Tables.{Tables}
use Rattle.chart_trees.specs.Outcomes.{IsBest}

-- the place and the list of a row
abbrev pub row_at : Best → At
row_at row = record { place = row.place; list = row.list }

-- the row has the least trees for its category
pub record IsRow (s : Setting) (row : Best) : Type 0 where
  pub best : IsBest s row.asked (row_at row) row.outcomes

-- each row has the ends or the least trees of its category
pub record AreTables (s : Setting) (tables : Tables) : Type 0 where
  pub ends : AreRows s no_asks tables.ends
  pub rows : All (IsRow s) tables.rows

-- the row with this number has the least trees for the category from the place and the list
pub record HasBest (s : Setting) (rows : List Best) (number : ℕ) (asked : Test) (at : At) : Type 0 where
  pub row : Best
  pub is : slice_get rows number ≡ Some row
  pub best : IsBest s asked at row.outcomes

-- the row with this number is that of the category, the place and the list
pub record IsFound (rows : List Best) (number : ℕ) (asked : Test) (place : ℕ) (list : List Entry) : Type 0 where
  pub row : Best
  pub is : slice_get rows number ≡ Some row
  pub asked_is : row.asked ≡ asked
  pub place_is : row.place ≡ place
  pub list_is : row.list ≡ list

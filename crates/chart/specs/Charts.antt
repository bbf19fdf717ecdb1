-- What a chart keeps.
use Rattle.std.specs.Prelude.{◌≡◌, ℕ, ◌+◌, ◌≤◌, Bool, List, length, take, slice_get, Some, IsTrue, ◌↔◌}
use Rattle.wiki_base.specs.declared.tokens.TheConstants.{MOST_TOKENS}
use Rattle.derivation_trees.specs.Trees.{Node}
use Rattle.derivation_trees.specs.Settings.{Setting}
use Rattle.derivation_trees.specs.Derives.{IsDerivation}
use Rattle.chart_table.specs.declared.choices.Plan.{Plan}
use Rattle.chart_table.specs.Choices.{ArePlans}

-- the first tokens, with their readings
abbrev pub first_of : Setting → ℕ → Setting
first_of s count = record { grammar = s.grammar; tokens = take count s.tokens; readings = take count s.readings }

-- There are at most `MOST_TOKENS` tokens, each with its readings, and for each number of first tokens it is told whether they have a derivation.
-- The plans are those of the grammar's rules.
pub record IsChart (s : Setting) (plans : List Plan) (derives : List Bool) : Type 0 where
  pub planned : ArePlans s plans
  pub few : length s.tokens ≤ MOST_TOKENS
  pub read : length s.readings ≡ length s.tokens
  pub all : length derives ≡ length s.tokens + 1
  pub told : (count : ℕ) (yes : Bool) → count ≤ length s.tokens → slice_get derives count ≡ Some yes
      → IsTrue yes ↔ ((tree : Node) × IsDerivation (first_of s count) tree)

-- Where phrases are cut off, and what is asked of them there.
use Rattle.std.specs.Prelude.{ℕ, List}
use Rattle.chart_table.specs.declared.asks.Ask.{Ask}

-- the place at which phrases are cut off, and what may be asked of them there
pub record Aims : Type 0 where
  pub halt : ℕ
  pub asks : List Ask

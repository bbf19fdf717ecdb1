-- One step after another, up to the first cause.
use Rattle.std.specs.Prelude.{Result, Ok, Err}
use Rattle.logic_terms.specs.declared.cause.Cause.{Cause}

abbrev pub next : {X Y : Type 0} → Result X Cause → (X → Result Y Cause) → Result Y Cause
next (Ok x) step = step x
next (Err cause) step = Err cause

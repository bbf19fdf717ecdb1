use Rattle.std.proofs.Common.{length}
use Rattle.quick_search.proofs.writing.Stand.wrapped.Given as goal

abbrev pub decreases-loop-step : goal.decreases-loop-step
decreases-loop-step l = length l.early

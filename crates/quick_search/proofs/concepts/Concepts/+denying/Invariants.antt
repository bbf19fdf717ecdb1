use Rattle.std.proofs.Common.{◌+◌, ◌*◌}
use Rattle.quick_search.proofs.concepts.Concepts.+denying.Given as goal

abbrev pub decreases-denial : goal.decreases-denial
decreases-denial l = 3 * l.depth

abbrev pub decreases-new_denial : goal.decreases-new_denial
decreases-new_denial l = 3 * l.depth + 2

abbrev pub decreases-denials_of : goal.decreases-denials_of
decreases-denials_of l = 3 * l.depth + 1

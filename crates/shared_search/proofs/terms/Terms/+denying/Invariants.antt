use Rattle.std.proofs.Common.{◌+◌, ◌*◌}
use Rattle.shared_search.proofs.terms.Terms.+denying.Given as goal

abbrev pub decreases-denied : goal.decreases-denied
decreases-denied l = 3 * l.depth

abbrev pub decreases-new_denial : goal.decreases-new_denial
decreases-new_denial l = 3 * l.depth + 2

abbrev pub decreases-denials_of : goal.decreases-denials_of
decreases-denials_of l = 3 * l.depth + 1

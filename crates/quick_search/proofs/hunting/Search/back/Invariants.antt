use Rattle.std.proofs.Common.{vec_len}
use Rattle.quick_search.proofs.hunting.Search.back.Given as goal

abbrev pub decreases-loop-taken : goal.decreases-loop-taken
decreases-loop-taken l = vec_len l.self.path

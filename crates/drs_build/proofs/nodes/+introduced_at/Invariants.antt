use Rattle.std.proofs.Common.{length}
use Rattle.drs_build.proofs.nodes.+introduced_at.Given as goal

abbrev pub decreases-introduced_at : goal.decreases-introduced_at
decreases-introduced_at l = length l.body.now

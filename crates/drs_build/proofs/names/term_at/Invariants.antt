use Rattle.std.proofs.Common.{◌≡◌, drop}
use Rattle.drs_build.specs.Nodes.{term_at}
use Rattle.drs_build.proofs.names.term_at.Given as goal

abbrev pub invariant-loop-introduced : goal.invariant-loop-introduced
invariant-loop-introduced l = term_at (drop l.introduced-index l.names) l.position ≡ term_at l.names l.position

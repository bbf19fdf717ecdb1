use Rattle.std.proofs.Common.{◌-◌, length}
use Rattle.owl_intake.specs.declared.input.TheConstants.{MOST_BYTES}
use Rattle.owl_intake.proofs.InputLemmas.{HasRead}
use Rattle.owl_intake.proofs.input.read_blocks.Given as goal

-- what was read so far was kept
abbrev pub invariant-reads : goal.invariant-reads
invariant-reads g l =
    HasRead (g.S.Source.left l.fn.input) (g.S.Source.left l.input) l.bytes.items (g.S.Source.faults l.fn.input) (g.S.Source.faults l.input)

-- what may still come
abbrev pub decreases-reads : goal.decreases-reads
decreases-reads g l = MOST_BYTES - length l.bytes.items

use Rattle.std.proofs.Common.{◌+◌, ◌-◌, length, None}
use Rattle.wiki_io.specs.declared.limits.TheConstants.{MAX_INPUT}
use Rattle.commands.proofs.RunLemmas.{Running}
use Rattle.commands.proofs.serve.step_lines.Given as goal

-- the lines given so far were stepped, and nothing was written
abbrev pub invariant-lines : goal.invariant-lines
invariant-lines g l =
    let source = g.S.Source in
    Running l.fn.wiki (source.left l.fn.input) None (source.left l.input) l.reader l.wiki None (source.faults l.fn.input) (source.faults l.input) 0 0

-- what may still be read, and what was read and not given
abbrev pub decreases-lines : goal.decreases-lines
decreases-lines g l = MAX_INPUT - l.reader.count + length l.reader.pending

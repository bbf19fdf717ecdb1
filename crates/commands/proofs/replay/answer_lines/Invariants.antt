use Rattle.std.proofs.Common.{◌+◌, ◌-◌, length}
use Rattle.wiki_io.specs.declared.limits.TheConstants.{MAX_INPUT}
use Rattle.commands.proofs.RunLemmas.{Running}
use Rattle.commands.proofs.replay.answer_lines.Given as goal

-- the lines given so far were answered, and nothing else was written
abbrev pub invariant-lines : goal.invariant-lines
invariant-lines g l =
    let source = g.S.Source in
    let sink = g.K.Sink in
    Running l.fn.wiki (source.left l.fn.input) (sink.taken l.fn.output) (source.left l.input) l.reader l.wiki (sink.taken l.output)
    (source.faults l.fn.input) (source.faults l.input) (sink.faults l.fn.output) (sink.faults l.output)

-- what may still be read, and what was read and not given
abbrev pub decreases-lines : goal.decreases-lines
decreases-lines g l = MAX_INPUT - l.reader.count + length l.reader.pending

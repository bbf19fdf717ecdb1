use Rattle.std.proofs.Common.{◌≤◌, length}
use Rattle.wiki_io.proofs.KnownLemmas.{HasWritten}
use Rattle.wiki_io.proofs.sinks.put.Given as goal

abbrev pub invariant-loop-rest : goal.invariant-loop-rest
invariant-loop-rest g l = record {
  written : HasWritten l.bytes l.rest (g.K.Sink.taken l.initial.sink) (g.K.Sink.taken l.sink);
  faults : g.K.Sink.faults l.initial.sink ≤ g.K.Sink.faults l.sink;
}

abbrev pub decreases-loop-rest : goal.decreases-loop-rest
decreases-loop-rest g l = length l.rest

use Rattle.std.proofs.Common.{arith}
use Rattle.wiki_io.proofs.KnownLemmas.{Appends-kept, HasWritten-none, HasWritten-more, HasWritten-prefix}
use Rattle.wiki_io.proofs.sinks.put.Goals as goal

pub loop-rest-init : goal.loop-rest-init
loop-rest-init g c = record { written = HasWritten-none _ _; faults = omega arith }

pub loop-rest-preserved : goal.loop-rest-preserved
loop-rest-preserved g c = record {
  written = HasWritten-more _ _ _ _ _ c.in-Bytes.n c.loop-rest.invariant.written (omega (arith, c.in-Bytes.ensures.fits)) c.in-Bytes.ensures.bytes;
  faults = omega (arith, c.loop-rest.invariant.faults, c.write.ensures.faults);
}

pub returns-in-Failed-clause-prefix : goal.returns-in-Failed-clause-prefix
returns-in-Failed-clause-prefix g c =
    let taken = HasWritten-prefix _ _ _ _ c.loop-rest.invariant.written in
    (taken.0, taken.1, Appends-kept _ _ _ _ taken.2 c.in-Failed.ensures.bytes)

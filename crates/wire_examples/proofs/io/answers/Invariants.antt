use Rattle.std.proofs.Common.{◌≤◌}
use Rattle.wiki_io.specs.declared.limits.TheConstants.{MAX_INPUT}
use Rattle.wire_examples.proofs.io.answers.Given as goal

abbrev pub invariant-loop : goal.invariant-loop
invariant-loop l = l.reader.count ≤ MAX_INPUT

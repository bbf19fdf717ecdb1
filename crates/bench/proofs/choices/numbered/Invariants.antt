use Rattle.std.proofs.Common.{◌<◌, All}
use Rattle.bench.proofs.choices.numbered.Given as goal

abbrev pub invariant-loop-number : goal.invariant-loop-number
invariant-loop-number l = All (λ n. n.0 < l.number) l.names

use Rattle.std.proofs.Common.{◌≡◌, ◌++◌, take, drop}
use Rattle.codeco_printer.specs.Unnumbered.{taken_terms, below, from}
use Rattle.codeco_printer.proofs.printing.count_below.Given as goal

abbrev pub invariant-loop-place : goal.invariant-loop-place
invariant-loop-place l = record {
  below : below l.feature (taken_terms l.taken) ≡ taken_terms (take l.place l.taken) ++ below l.feature (taken_terms (drop l.place l.taken));
  from : from l.feature (taken_terms l.taken) ≡ from l.feature (taken_terms (drop l.place l.taken));
}

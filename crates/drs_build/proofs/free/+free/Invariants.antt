use Rattle.std.proofs.Common.{◌≡◌}
use Rattle.logic_terms.specs.Shown.{conditions_of}
use Rattle.drs_build.proofs.FreeLemmas.{left_free}
use Rattle.drs_build.proofs.free.+free.Given as goal

abbrev pub invariant-free_in_all-loop-place : goal.invariant-free_in_all-loop-place
invariant-free_in_all-loop-place l = left_free l.bound (conditions_of l.conditions) l.place ≡ left_free l.bound (conditions_of l.conditions) 0

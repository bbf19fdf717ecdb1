use Rattle.std.proofs.Common.{◌≤◌, ◌-◌, drop, length}
use Rattle.explain.specs.Answers.{claims_in}
use Rattle.explain.specs.Narrow.{IsCore}
use Rattle.explain.proofs.ReasonLemmas.{IsOnTheWay}
use Rattle.explain.proofs.explaining.reduced.Given as goal

abbrev pub invariant-loop-place : goal.invariant-loop-place
invariant-loop-place l = record {
  way : IsOnTheWay (claims_in l.inquiry.parts.now) l.kept (drop l.from l.all) l.shown;
  core : IsCore (claims_in l.inquiry.parts.now) l.inquiry.names.now l.kept l.from l.core;
  within : l.from ≤ length l.all;
}

abbrev pub decreases-loop-place : goal.decreases-loop-place
decreases-loop-place l = length l.all - l.from

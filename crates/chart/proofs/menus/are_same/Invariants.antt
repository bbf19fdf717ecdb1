use Rattle.std.proofs.Common.{◌≡◌, take}
use Rattle.chart.proofs.menus.are_same.Given as goal

abbrev pub invariant-loop-place : goal.invariant-loop-place
invariant-loop-place l = take l.place l.symbols ≡ take l.place l.others

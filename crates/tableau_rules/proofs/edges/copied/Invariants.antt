use Rattle.std.proofs.Common.{◌≡◌, take}
use Rattle.tableau_rules.proofs.edges.copied.Given as goal

abbrev pub invariant-loop-own : goal.invariant-loop-own
invariant-loop-own l = l.copied.items ≡ take l.own-index l.lists

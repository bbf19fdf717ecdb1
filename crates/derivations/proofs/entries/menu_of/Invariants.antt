use Rattle.std.proofs.Common.{◌≡◌, map, take}
use Rattle.derivations.specs.Entries.{shown}
use Rattle.derivations.proofs.entries.menu_of.Given as goal

abbrev pub invariant-loop-group : goal.invariant-loop-group
invariant-loop-group l = l.menu ≡ map shown (take l.group-index l.entries)

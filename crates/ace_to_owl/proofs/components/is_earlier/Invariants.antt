use Rattle.std.proofs.Common.{◌≡◌, drop}
use Rattle.std.specs.List.{list_any}
use Rattle.ace_to_owl.specs.Groups.{labelled_together}
use Rattle.ace_to_owl.proofs.components.is_earlier.Given as goal

abbrev pub invariant-loop-group : goal.invariant-loop-group
invariant-loop-group l = list_any (labelled_together l.moves l.own) (drop l.group-index l.before) ≡ list_any (labelled_together l.moves l.own) l.before

use Rattle.std.proofs.Common.{◌≡◌, ◌==◌, take}
use Rattle.std.specs.List.{list_any, filter}
use Rattle.ace_to_owl.specs.Moves.{moved_by}
use Rattle.ace_to_owl.proofs.components.referents_with.Given as goal

abbrev pub invariant-loop-referent : goal.invariant-loop-referent
invariant-loop-referent l = l.inside ≡ filter (λ q. list_any (λ r. moved_by l.moves r == moved_by l.moves q) l.own) (take l.referent-index l.referents)

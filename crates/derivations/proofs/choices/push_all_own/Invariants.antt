use Rattle.std.proofs.Common.{◌≡◌, ℕ, ◌+◌, ◌*◌, [], ◌∷◌, ◌++◌, take, drop, map}
use Rattle.std.specs.List.{flat_map, range_with_len}
use Rattle.derivation_trees.specs.Instances.{own_features}
use Rattle.derivations.proofs.choices.push_all_own.Given as goal

abbrev pub invariant-loop-element : goal.invariant-loop-element
invariant-loop-element l =
    l.out.items ≡ l.initial.out.items ++ flat_map (own_features l.setting.grammar) (take l.element-index l.body)

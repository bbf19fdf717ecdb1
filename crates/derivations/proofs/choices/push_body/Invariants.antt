use Rattle.std.proofs.Common.{◌≡◌, ℕ, ◌+◌, ◌*◌, [], ◌∷◌, ◌++◌, take, drop, map}
use Rattle.derivations.specs.Enumeration as enumeration
use Rattle.std.specs.List.{flat_map, range_with_len}
use Rattle.derivations.proofs.choices.push_body.Given as goal

abbrev pub invariant-loop-element : goal.invariant-loop-element
invariant-loop-element l =
    l.out ≡ l.initial.out ++ flat_map enumeration.element_terms (take l.element-index l.body)

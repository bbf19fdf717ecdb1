use Rattle.std.proofs.Common.{◌≡◌, ℕ, ◌+◌, ◌*◌, [], ◌∷◌, ◌++◌, take, drop, map}
use Rattle.std.specs.List.{flat_map, range_with_len}
use Rattle.codeco_terms.specs.declared.values.Value.TheVariants.{Pos, Atom}
use Rattle.derivations.proofs.values.position_values.Given as goal

abbrev pub invariant-loop-place : goal.invariant-loop-place
invariant-loop-place l =
    l.values ≡ map (λ p. Pos p) (range_with_len 0 l.place)

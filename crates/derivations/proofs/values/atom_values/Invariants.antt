use Rattle.std.proofs.Common.{◌≡◌, ℕ, ◌+◌, ◌*◌, [], ◌∷◌, ◌++◌, take, drop, map}
use Rattle.codeco_terms.specs.declared.values.Value.TheVariants.{Pos, Atom}
use Rattle.derivations.proofs.values.atom_values.Given as goal

abbrev pub invariant-loop-atom : goal.invariant-loop-atom
invariant-loop-atom l =
    l.values ≡ map (λ a. Atom a) (take l.atom-index l.atoms)

use Rattle.std.proofs.Common.{◌≡◌, drop}
use Rattle.std.specs.Prelude.{flat_map}
use Rattle.codeco_numbering.specs.Numbered.{gathered, feature_atoms}
use Rattle.codeco_numbering.proofs.atoms.atoms_of.Given as goal

abbrev pub invariant-loop-feature : goal.invariant-loop-feature
invariant-loop-feature l = gathered l.names (flat_map (λ f. feature_atoms f.domain) (drop l.feature-index l.feature-items))
    ≡ gathered l.initial.names (flat_map (λ f. feature_atoms f.domain) l.feature-items)

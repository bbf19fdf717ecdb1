use Rattle.std.proofs.Common.{List, refl}
use Rattle.std.specs.Prelude.{flat_map}
use Rattle.codeco_numbering.specs.Numbered.{NamedFeature, gathered, feature_atoms}
use Rattle.codeco_numbering.proofs.Gathers.{gather_turn}
use Rattle.codeco_numbering.proofs.atoms.atoms_of.Goals as goal

pub loop-feature-preserved : goal.loop-feature-preserved
loop-feature-preserved c =
    let items : List NamedFeature = c.as_slice-feature-items.result.now in
    gather_turn (λ (xs : List NamedFeature). flat_map (λ f. feature_atoms f.domain) xs) (λ (x : NamedFeature). feature_atoms x.domain) (λ x xs. refl)
    c.loop-feature.names c.add_feature_atoms.new.names (gathered c.in_ok-names.names (flat_map (λ f. feature_atoms f.domain) items)) items
    c.loop-feature.feature-index c.feature-item.result c.loop-feature-test.true c.feature-item.is c.loop-feature.invariant c.in_ok-add_feature_atoms.ensures

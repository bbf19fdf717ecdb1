use Rattle.std.proofs.Common.{◌≡◌, take, map}
use Rattle.codeco_numbering.specs.Numbered.{numbered_feature}
use Rattle.codeco_numbering.proofs.atoms.numbered_features.Given as goal

abbrev pub invariant-loop-feature : goal.invariant-loop-feature
invariant-loop-feature l = l.list ≡ map (numbered_feature l.atoms) (take l.feature-index l.feature-items)

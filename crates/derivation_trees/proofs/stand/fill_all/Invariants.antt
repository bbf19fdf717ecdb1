use Rattle.std.proofs.Common.{◌≡◌, ◌++◌, drop, length}
use Rattle.derivation_trees.specs.Derives.{filled, own_rest}
use Rattle.derivation_trees.proofs.stand.fill_all.Given as goal

abbrev pub invariant-loop-feature : goal.invariant-loop-feature
invariant-loop-feature l =
    (length l.vals ≡ l.feature-index) × (l.vals ++ filled l.values l.feats (drop l.feature-index l.features) l.left ≡ filled l.values l.feats l.features l.own)
    × (own_rest l.feats (drop l.feature-index l.features) l.left ≡ own_rest l.feats l.features l.own)

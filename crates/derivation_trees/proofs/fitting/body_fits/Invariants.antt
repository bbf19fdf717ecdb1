use Rattle.std.proofs.Common.{◌≡◌, drop, []}
use Rattle.std.specs.List.{flat_map, list_all}
use Rattle.codeco_checked.specs.Occurrences.{mentions}
use Rattle.derivation_trees.specs.Instances.{term_fits}
use Rattle.derivation_trees.proofs.fitting.body_fits.Given as goal

abbrev pub invariant-loop-element : goal.invariant-loop-element
invariant-loop-element l =
    list_all (term_fits l.setting l.values) (flat_map (λ c. c.feats) (flat_map mentions (drop l.element-index l.body)))
    ≡ list_all (term_fits l.setting l.values) (flat_map (λ c. c.feats) (flat_map mentions l.body))

use Rattle.std.proofs.Common.{◌≡◌, drop, map, []}
use Rattle.std.specs.List.{flat_map, list_all}
use Rattle.codeco_checked.specs.Occurrences.{whole}
use Rattle.derivation_trees.specs.Instances.{term_fits}
use Rattle.derivation_trees.proofs.fitting.patterns_fit.Given as goal

abbrev pub invariant-loop-pattern : goal.invariant-loop-pattern
invariant-loop-pattern l =
    list_all (term_fits l.setting l.values) (flat_map (λ c. c.feats) (map whole (drop l.pattern-index l.patterns)))
    ≡ list_all (term_fits l.setting l.values) (flat_map (λ c. c.feats) (map whole l.patterns))

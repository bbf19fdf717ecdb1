use Rattle.std.proofs.Common.{◌≡◌, [], ◌∷◌, ◌++◌, map, refl, ◌∙◌, arith, rules}
use Rattle.std.specs.List.{flat_map}
use Rattle.codeco_checked.specs.Occurrences.{whole}
use Rattle.derivation_trees.specs.Putting.{features_in}
use Rattle.derivation_trees.proofs.PutLemmas.{put_step}
use Rattle.derivation_trees.proofs.features.put_patterns.Goals as goal

pub loop-pattern-preserved : goal.loop-pattern-preserved
loop-pattern-preserved c =
    put_step (λ p. features_in c.args.name (whole p)) (λ ps. flat_map (features_in c.args.name) (map whole ps)) (λ x ys. refl) c.args.patterns.now
    c.loop-pattern.pattern-index c.pattern-item.result c.loop-pattern.features.items c.put_pattern.new.features.items _ (omega arith) c.pattern-item.is
    (search rules) c.loop-pattern.invariant

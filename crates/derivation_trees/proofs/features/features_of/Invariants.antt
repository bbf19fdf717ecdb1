use Rattle.std.proofs.Common.{◌≡◌, drop, []}
use Rattle.std.specs.List.{flat_map}
use Rattle.codeco_checked.specs.Occurrences.{rule_mentions}
use Rattle.derivation_trees.specs.Putting.{put_all, features_in}
use Rattle.derivation_trees.proofs.features.features_of.Given as goal

abbrev pub invariant-loop-rule : goal.invariant-loop-rule
invariant-loop-rule l =
    put_all l.features.items (flat_map (λ r. flat_map (features_in l.name) (rule_mentions r)) (drop l.rule-index l.rule-items))
    ≡ put_all [] (flat_map (λ r. flat_map (features_in l.name) (rule_mentions r)) l.rule-items)

use Rattle.std.proofs.Common.{◌≡◌, map, length, take}
use Rattle.std.specs.List.{flat_map}
use Rattle.derivation_trees.specs.Instances.{own_features}
use Rattle.chart_table.specs.Features.{element_features, AreListed}
use Rattle.chart_table.proofs.features.owned_by.Given as goal

abbrev pub invariant-loop-element : goal.invariant-loop-element
invariant-loop-element l =
    record {
      known : AreListed l.grammar l.known;
      features : l.all ≡ map (element_features l.grammar) (take l.element-index l.body);
      own : l.own ≡ flat_map (own_features l.grammar) (take l.element-index l.body);
      counts : l.counts ≡ map (λ e. length (own_features l.grammar e)) (take l.element-index l.body);
    }

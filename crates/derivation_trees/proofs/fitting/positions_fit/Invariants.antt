use Rattle.std.proofs.Common.{◌≡◌, drop, []}
use Rattle.std.specs.List.{flat_map, list_all}
use Rattle.codeco_terms.specs.declared.declarations.Declared.TheVariants as declared
use Rattle.codeco_checked.specs.Occurrences.{positions}
use Rattle.derivation_trees.specs.Settings.{is_value}
use Rattle.derivation_trees.specs.Instances.{value_under}
use Rattle.derivation_trees.proofs.fitting.positions_fit.Given as goal

abbrev pub invariant-loop-element : goal.invariant-loop-element
invariant-loop-element l =
    list_all (λ x. is_value l.setting declared.Positions (value_under l.values x)) (flat_map positions (drop l.element-index l.body))
    ≡ list_all (λ x. is_value l.setting declared.Positions (value_under l.values x)) (flat_map positions l.body)

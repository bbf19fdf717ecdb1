use Rattle.std.proofs.Common.{◌≡◌, ◌&&◌, not, drop}
use Rattle.std.specs.List.{list_any}
use Rattle.codeco_checked.specs.Numbering.{has}
use Rattle.codeco_checked.specs.Faults.{given_features, given_values, same_values, values_of}
use Rattle.codeco_late_faults.proofs.bad_rules.is_wrong_preterminal.Given as goal

abbrev pub invariant-loop-feature : goal.invariant-loop-feature
invariant-loop-feature l =
    list_any (λ f. not (has (given_features l.category.name) f.0 && same_values (values_of l.table f.0) (given_values f.0)))
    (drop l.feature-index l.feature-items)
    ≡ list_any (λ f. not (has (given_features l.category.name) f.0 && same_values (values_of l.table f.0) (given_values f.0))) l.feature-items

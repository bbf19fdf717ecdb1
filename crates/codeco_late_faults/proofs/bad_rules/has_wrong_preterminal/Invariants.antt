use Rattle.std.proofs.Common.{◌≡◌, drop}
use Rattle.std.specs.List.{list_any, flat_map}
use Rattle.codeco_checked.specs.Faults.{is_wrong_preterminal, preterminals}
use Rattle.codeco_late_faults.proofs.bad_rules.has_wrong_preterminal.Given as goal

abbrev pub invariant-loop-element : goal.invariant-loop-element
invariant-loop-element l = list_any (is_wrong_preterminal l.table) (flat_map preterminals (drop l.element-index l.body))
    ≡ list_any (is_wrong_preterminal l.table) (flat_map preterminals l.body)

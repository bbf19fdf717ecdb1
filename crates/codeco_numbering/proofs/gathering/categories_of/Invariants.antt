use Rattle.std.proofs.Common.{◌≡◌, drop}
use Rattle.std.specs.Prelude.{flat_map}
use Rattle.codeco_numbering.specs.Numbered.{gathered, rule_names, rules_of}
use Rattle.codeco_numbering.proofs.gathering.categories_of.Given as goal

abbrev pub invariant-loop-item : goal.invariant-loop-item
invariant-loop-item l = gathered l.names (flat_map rule_names (rules_of (drop l.item-index l.item-items)))
    ≡ gathered l.initial.names (flat_map rule_names (rules_of l.item-items))

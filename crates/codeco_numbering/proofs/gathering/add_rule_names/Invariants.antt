use Rattle.std.proofs.Common.{◌≡◌, map, drop}
use Rattle.std.specs.Prelude.{flat_map}
use Rattle.codeco_numbering.specs.Numbered.{gathered, plain_categories}
use Rattle.codeco_numbering.proofs.gathering.add_rule_names.Given as goal

abbrev pub invariant-loop-element : goal.invariant-loop-element
invariant-loop-element l = gathered l.names (map (λ c. c.name) (flat_map plain_categories (drop l.element-index l.element-items)))
    ≡ gathered l.initial.names (map (λ c. c.name) (flat_map plain_categories l.element-items))

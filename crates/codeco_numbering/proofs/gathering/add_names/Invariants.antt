use Rattle.std.proofs.Common.{◌≡◌, map, drop}
use Rattle.codeco_numbering.specs.Numbered.{gathered}
use Rattle.codeco_numbering.proofs.gathering.add_names.Given as goal

abbrev pub invariant-loop-category : goal.invariant-loop-category
invariant-loop-category l = gathered l.names (map (λ c. c.name) (drop l.category-index l.category-items))
    ≡ gathered l.initial.names (map (λ c. c.name) l.category-items)

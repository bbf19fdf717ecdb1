use Rattle.std.proofs.Common.{◌≡◌, drop}
use Rattle.std.specs.Prelude.{flat_map}
use Rattle.codeco_numbering.specs.Numbered.{gathered, category_names}
use Rattle.codeco_numbering.proofs.variables.add_categories.Given as goal

abbrev pub invariant-loop-category : goal.invariant-loop-category
invariant-loop-category l = gathered l.names (flat_map (category_names l.features) (drop l.category-index l.category-items))
    ≡ gathered l.initial.names (flat_map (category_names l.features) l.category-items)

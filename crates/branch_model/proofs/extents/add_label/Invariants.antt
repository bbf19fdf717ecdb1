use Rattle.std.proofs.Common.{◌≡◌, map, drop}
use Rattle.logic_terms.specs.Shown.{concept_of}
use Rattle.owl_eval.specs.Given.{lists_in}
use Rattle.branch_model.specs.Extents.{labelled}
use Rattle.branch_model.proofs.extents.add_label.Given as goal

abbrev pub invariant-loop-class : goal.invariant-loop-class
invariant-loop-class l = labelled l.element (map concept_of (drop l.class-index l.label)) (lists_in l.made.items)
    ≡ labelled l.element (map concept_of l.label) (lists_in l.fn.made.items)

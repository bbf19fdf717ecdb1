use Rattle.std.proofs.Common.{ltb, length, ap, ◌∙◌, subst, sym}
use Rattle.std.specs.Prelude.{IsTrue}
use Rattle.std.specs.List.{list_all}
use Rattle.std.proofs.lemmas.Bool.{and_parts}
use Rattle.codeco_labels.specs.Shapes.{element_below, found_below, shape_of}
use Rattle.codeco_labels.proofs.RowLemmas.{children_below}
use Rattle.codeco_labels.proofs.misfits.fit_rule.Goals as goal

pub fit-requires-clause-below : goal.fit-requires-clause-below
fit-requires-clause-below c =
    let size = length c.args.table.now.groups in
    let r = c.args.rule.now in
    let parts = and_parts (ltb r.head.name size) (list_all (element_below size) r.body) c.requires.below in
    subst (λ s. IsTrue (found_below size s.children)) (sym (c.of-shape.ensures ∙ ap (shape_of c.args.marks.now) c.as_slice.ensures))
    (children_below c.args.marks.now size r.body parts.1)

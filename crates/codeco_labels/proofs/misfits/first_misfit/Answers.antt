use Rattle.std.proofs.Common.{sym, subst}
use Rattle.codeco_labels.specs.Misfits.{FirstMisfit, AreMarks}
use Rattle.codeco_labels.proofs.MisfitLemmas.{IsFresh, no_text}
use Rattle.codeco_labels.proofs.misfits.first_misfit.Goals as goal

pub returns-then-not-restrict : goal.returns-then-not-restrict
returns-then-not-restrict c =
    let fresh : IsFresh c.deref.result.now c.in_ok-table.table =
    record { size = c.in_ok-table.ensures.size; meets = c.in_ok-table.ensures.meets; marked = c.in_ok-table.ensures.marks } in
    let right = subst (AreMarks c.args.rules.now) (sym c.deref.ensures.value) c.in_ok-marks.ensures.marks in
    subst (FirstMisfit c.args.rules.now) (sym c.first_place.ensures)
    (no_text c.args.rules.now c.deref.result.now c.in_ok-table.table c.restrict.new.self c.restrict.result right fresh c.if-not-restrict.true
    c.restrict.ensures)

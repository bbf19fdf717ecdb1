use Rattle.std.proofs.Common.{take, get_or, sym, ◌∙◌}
use Rattle.logic_terms.proofs.Extensions.{same_at, other_at}
use Rattle.owl_eval.specs.Assigned.{assigned}
use Rattle.owl_eval.proofs.Assignments.{assigned_more}
use Rattle.owl_eval.proofs.truth.last_given.Goals as goal
use Rattle.owl_eval.proofs.truth.last_given.Goals.{then-entry-referent, else-entry-referent}

pub loop-entry-preserved : goal.loop-entry-preserved
loop-entry-preserved c =
    let k = c.loop-entry.entry-index in
    let e = get_or c.args.given.now k (0, 0) in
    let before = assigned (take k c.args.given.now) in
    let more = assigned_more c.args.given.now k c.args.referent c.loop-entry-test.true in
    elim c.if-entry-referent.branch [
      | then-entry-referent w ↦ w.element-is ∙ sym (more ∙ same_at before e.0 e.1 c.args.referent w.if-entry-referent.true)
      | else-entry-referent w ↦ w.element-is ∙ (c.loop-entry.invariant ∙ sym (more ∙ other_at before e.0 e.1 c.args.referent w.if-entry-referent.false))
    ]

use Rattle.std.proofs.Common.{◌+◌, ◌∙◌, sym, subst, ap, refl, arith, length, length-set, Some}
use Rattle.codeco_terms.specs.declared.values.Value.TheVariants.{Atom}
use Rattle.codeco_terms.specs.declared.values.Term.TheVariants.{Val}
use Rattle.codeco_late_faults.specs.Tables.{has_mixed_variable}
use Rattle.codeco_late_faults.proofs.MixedLemmas.{LeftDecides, mixed_begin, mixed_next, mixed_other}
use Rattle.codeco_late_faults.proofs.bad_rules.has_mixed_variable.Goals as goal
use Rattle.codeco_late_faults.proofs.bad_rules.has_mixed_variable.Goals.{in-Var+else-differs, in_default}

pub loop-feature-init : goal.loop-feature-init
loop-feature-init c = record {
  left = mixed_begin c.args.table.now c.args.feats.now 256;
  room = refl;
}

pub loop-feature-preserved : goal.loop-feature-preserved
loop-feature-preserved c =
    let g = c.args.table.now in
    let feats = c.args.feats.now in
    let i = c.loop-feature.feature-index in
    let all = has_mixed_variable c.args.table.now c.args.feats.now in
    record {
      left = elim c.match-term.branch [
        | in-Var+else-differs w ↦
            subst (λ m. LeftDecides c.args.table.now c.args.feats.now (c.loop-feature.feature-index + 1) m
            (has_mixed_variable c.args.table.now c.args.feats.now)) (sym w.classes-is)
            (mixed_next g feats i (0, Val (Atom 0)) w.in-Var.variable c.loop-feature.classes w.class-class.result all c.loop-feature-test.true w.in-Var.is
            (omega (arith, c.loop-feature.invariant.room)) w.class-class.ensures (sym w.differs.ensures ∙ w.if-differs.false) c.loop-feature.invariant.left)
        | in_default w ↦
            subst (λ m. LeftDecides c.args.table.now c.args.feats.now (c.loop-feature.feature-index + 1) m
            (has_mixed_variable c.args.table.now c.args.feats.now)) (sym w.classes-is)
            (mixed_other g feats i (0, Val (Atom 0)) c.loop-feature.classes all c.loop-feature-test.true w.in_default.not-Var c.loop-feature.invariant.left)
      ];
      room = elim c.match-term.branch [
        | in-Var+else-differs w ↦ ap length w.classes-is ∙ length-set c.loop-feature.classes w.in-Var.variable (Some w.class-class.result)
            ∙ c.loop-feature.invariant.room
        | in_default w ↦ ap length w.classes-is ∙ c.loop-feature.invariant.room
      ];
    }

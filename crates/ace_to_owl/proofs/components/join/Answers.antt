use Rattle.std.proofs.Common.{◌≡◌, take, get_or, sym, ap, ◌∙◌}
use Rattle.std.proofs.lemmas.List.{take_more}
use Rattle.ace_to_owl.specs.Moves.{moved, moved_by}
use Rattle.ace_to_owl.proofs.GroupLemmas.{gathered_to, gathered_more}
use Rattle.ace_to_owl.proofs.components.join.Goals as goal

pub loop-referent-preserved : goal.loop-referent-preserved
loop-referent-preserved c n =
    let start = moved_by c.args.moves.now in
    let group = c.args.group.now in
    let k = c.loop-referent.referent-index in
    let q = get_or group k 0 in
    let target = c.label-target.result in
    let old : c.label-old.result ≡ gathered_to start target (take k group) q =
    c.label-old.ensures ∙ ap (λ ms. moved_by ms q) c.as_slice-in-loop-referent.ensures ∙ c.loop-referent.invariant q in
    c.in_ok-move_label.ensures n
    ∙ (λ j. moved (old j) target (c.loop-referent.invariant n j))
    ∙ gathered_more start target (take k group) q n
    ∙ ap (λ qs. gathered_to start target qs n) (sym (take_more group k 0 c.loop-referent-test.true))

use Rattle.std.proofs.Common.{◌+◌, ◌||◌, drop, sym, ap, ◌∙◌}
use Rattle.std.specs.List.{list_any}
use Rattle.wiki_base.proofs.ListLaws.{drop_get_or}
use Rattle.ace_to_owl.specs.Groups.{labelled_together}
use Rattle.ace_to_owl.proofs.components.is_earlier.Goals as goal

pub loop-group-preserved : goal.loop-group-preserved
loop-group-preserved c =
    let test = labelled_together c.args.moves.now c.args.own.now in
    let k = c.loop-group.group-index in
    sym
    (ap (list_any test) (drop_get_or c.args.before.now k c.group-item.result c.loop-group-test.true c.group-item.is)
    ∙ ap (λ b. b || list_any test (drop (k + 1) c.args.before.now)) (sym (c.is_together.ensures ∙ ap test c.as_slice.ensures) ∙ c.if-is_together.false))
    ∙ c.loop-group.invariant

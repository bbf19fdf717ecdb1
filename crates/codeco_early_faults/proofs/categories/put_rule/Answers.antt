use Rattle.std.proofs.Common.{ap, ◌∙◌, ◌++◌}
use Rattle.std.specs.List.{flat_map}
use Rattle.codeco_early_faults.specs.Pairs.{gathered_pairs}
use Rattle.codeco_early_faults.specs.Early.{category_pairs, named_pairs, plain_pairs}
use Rattle.codeco_early_faults.proofs.Gathering.{pairs_turn, pairs_end, pairs_rule}
use Rattle.codeco_early_faults.proofs.categories.put_rule.Goals as goal

pub loop-element-preserved : goal.loop-element-preserved
loop-element-preserved c =
    pairs_turn plain_pairs c.put_category.new.pairs c.loop-element.pairs c.put_element.new.pairs c.as_slice-element-items.result.now
    c.loop-element.element-index c.element-item.result c.loop-element-test.true c.element-item.is c.loop-element.invariant c.in_ok-put_element.ensures

pub returns : goal.returns
returns c =
    let body = c.as_slice-element-items.result.now in
    pairs_rule plain_pairs c.args.pairs.now c.put_category.new.pairs c.loop-element.pairs (category_pairs c.args.rule.now.head) body
    (c.in_ok-put_category.ensures ∙ ap (λ name. gathered_pairs c.args.pairs.now (named_pairs name c.args.rule.now.head)) c.as_bytes.ensures)
    (pairs_end plain_pairs c.put_category.new.pairs c.loop-element.pairs body c.loop-element.element-index c.loop-element-test.false c.loop-element.invariant)
    ∙ ap (λ es. gathered_pairs c.args.pairs.now (category_pairs c.args.rule.now.head ++ flat_map plain_pairs es)) c.as_slice-element-items.ensures

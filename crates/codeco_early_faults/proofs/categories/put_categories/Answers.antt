use Rattle.std.proofs.Common.{ap, ◌∙◌}
use Rattle.codeco_early_faults.specs.Pairs.{gathered_pairs}
use Rattle.codeco_early_faults.specs.Early.{category_pairs, named_pairs}
use Rattle.codeco_early_faults.proofs.Gathering.{pairs_turn}
use Rattle.codeco_early_faults.proofs.categories.put_categories.Goals as goal

pub loop-category-preserved : goal.loop-category-preserved
loop-category-preserved c =
    pairs_turn category_pairs c.args.pairs.now c.loop-category.pairs c.put_category.new.pairs c.as_slice-category-items.result.now
    c.loop-category.category-index c.category-item.result c.loop-category-test.true c.category-item.is c.loop-category.invariant
    (c.in_ok-put_category.ensures ∙ ap (λ name. gathered_pairs c.loop-category.pairs (named_pairs name c.category-item.result)) c.as_bytes.ensures)

use Rattle.codeco_early_faults.specs.Early.{category_pairs}
use Rattle.codeco_early_faults.proofs.Gathering.{pairs_both}
use Rattle.codeco_early_faults.proofs.categories.put_reference.Goals as goal

pub returns : goal.returns
returns c =
    pairs_both category_pairs c.args.pairs.now c.put_categories.new.pairs c.put_categories-2.new.pairs c.args.positive.now c.args.negative.now
    c.in_ok-put_categories.ensures c.in_ok-put_categories-2.ensures

use Rattle.codeco_early_faults.specs.Early.{category_variables}
use Rattle.codeco_early_faults.proofs.Gathering.{names_turn}
use Rattle.codeco_early_faults.proofs.variables.put_categories.Goals as goal

pub loop-category-preserved : goal.loop-category-preserved
loop-category-preserved c =
    names_turn category_variables c.args.names.now c.loop-category.names c.put_category.new.names c.as_slice-category-items.result.now
    c.loop-category.category-index c.category-item.result c.loop-category-test.true c.category-item.is c.loop-category.invariant
    c.in_ok-put_category.ensures

use Rattle.codeco_early_faults.specs.Early.{category_variables}
use Rattle.codeco_early_faults.proofs.Gathering.{names_both}
use Rattle.codeco_early_faults.proofs.variables.put_reference.Goals as goal

pub returns : goal.returns
returns c =
    names_both category_variables c.args.names.now c.put_categories.new.names c.put_categories-2.new.names c.args.positive.now c.args.negative.now
    c.in_ok-put_categories.ensures c.in_ok-put_categories-2.ensures

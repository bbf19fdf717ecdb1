use Rattle.std.proofs.Common.{sym, ◌∙◌}
use Rattle.owl_eval.specs.Given.{lists_in}
use Rattle.owl_eval.proofs.Arranged.{is_interpretation-arranged, arranged-means}
use Rattle.owl_eval.proofs.interp.Interp.new.Goals as goal

pub invariant_of-result : goal.invariant_of-result
invariant_of-result c =
    sym (is_interpretation-arranged c.args.size c.args.names.items (lists_in c.args.classes.items) c.in_ok-classes.classes.items
    (lists_in c.args.relations.items) c.in_ok-relations.relations.items c.in_ok-classes.ensures c.in_ok-relations.ensures)
    ∙ c.requires

pub returns-clause-means : goal.returns-clause-means
returns-clause-means c =
    arranged-means c.args.size c.args.names.items (lists_in c.args.classes.items) c.in_ok-classes.classes.items (lists_in c.args.relations.items)
    c.in_ok-relations.relations.items c.in_ok-classes.ensures c.in_ok-relations.ensures

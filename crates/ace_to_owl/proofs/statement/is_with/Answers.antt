use Rattle.std.proofs.Common.{◌∙◌}
use Rattle.ace_to_owl.proofs.ClaimLemmas.{labels_with}
use Rattle.ace_to_owl.proofs.statement.is_with.Goals as goal

pub returns : goal.returns
returns c =
    c.is_together.ensures
    ∙ labels_with c.args.whole.now.moves.now c.args.whole.now.groups.now c.requires.joins c.args.own.now c.args.group.now

use Rattle.std.proofs.Common.{◌∙◌}
use Rattle.ace_to_owl.proofs.ClaimLemmas.{labels_inside}
use Rattle.ace_to_owl.proofs.statement.referents_inside.Goals as goal

pub returns : goal.returns
returns c =
    c.in_ok-inside.ensures
    ∙ labels_inside c.args.whole.now.moves.now c.args.whole.now.groups.now c.requires.joins c.args.own.now c.args.whole.now.referents.now

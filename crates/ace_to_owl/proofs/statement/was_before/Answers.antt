use Rattle.std.proofs.Common.{ℕ, List, ap, ◌∙◌}
use Rattle.std.specs.List.{list_any}
use Rattle.ace_to_owl.specs.Mapping.{together}
use Rattle.ace_to_owl.proofs.ClaimLemmas.{labels_before}
use Rattle.ace_to_owl.proofs.statement.was_before.Goals as goal

pub returns : goal.returns
returns c =
    let gs : List (List ℕ) = c.args.whole.now.groups.now in
    c.is_earlier.ensures
    ∙ labels_before c.args.whole.now.moves.now gs c.requires.known.joins c.args.own.now c.groups_before.result.now
    ∙ ap (list_any (together gs c.args.own.now)) c.groups_before.ensures

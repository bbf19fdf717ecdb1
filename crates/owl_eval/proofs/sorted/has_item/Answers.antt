use Rattle.std.proofs.Common.{◌∙◌}
use Rattle.owl_eval.proofs.Halving.{found}
use Rattle.owl_eval.proofs.sorted.has_item.Goals as goal

pub returns : goal.returns
returns g c =
    c.is_ok.ensures.value
    ∙ found g.met.T.Ord.total g.T.PartialEq.eq g.met.T.Ord.matches_eq c.args.items.now c.args.item.now c.requires _ c.binary_search.ensures.bound
    c.binary_search.ensures.position

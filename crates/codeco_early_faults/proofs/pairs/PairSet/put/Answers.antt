use Rattle.std.proofs.Common.{◌∷◌, [], ap, ◌∙◌}
use Rattle.codeco_early_faults.specs.Pairs.{gathered_pairs}
use Rattle.codeco_early_faults.proofs.Keys.{text_pairs, put_pair}
use Rattle.codeco_early_faults.proofs.pairs.PairSet.put.Goals as goal

pub returns : goal.returns
returns c = ap text_pairs c.in_ok-insert.ensures.keys ∙ put_pair c.self.inside.pairs.keys (c.args.category, c.args.feature)
    ∙ ap (λ pairs. gathered_pairs pairs ((c.args.category.now, c.args.feature.now) ∷ [])) c.self.view_is

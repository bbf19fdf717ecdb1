use Rattle.std.proofs.Common.{ap, map, ◌∙◌}
use Rattle.codeco_early_faults.specs.Early.{written_plain_pairs}
use Rattle.codeco_early_faults.specs.Counts.{has_crowd}
use Rattle.codeco_early_faults.proofs.Wide.{crowd_wide}
use Rattle.codeco_early_faults.proofs.Crowd.{firsts}
use Rattle.codeco_early_faults.proofs.categories.has_broad_plain.Goals as goal

pub returns : goal.returns
returns c =
    c.in_ok-found.ensures ∙ ap (has_crowd 16) (firsts c.as_slice.result.now ∙ ap (map (λ p. p.0)) (c.as_slice.ensures ∙ c.in_ok-pairs.ensures))
    ∙ crowd_wide (written_plain_pairs c.args.items.now)
